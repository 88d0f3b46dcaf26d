-- What a separator is where it stands, and what reading notes of a piece (7.6, 7.6.1, 9.4.6).
use Rattle.std.specs.Prelude.{ℕ, Bool, true, false, ◌&&◌, ◌||◌, ◌==◌, is_some, Option, Some, None, List, [], ◌∷◌, if◌then◌else◌}
use Rattle.std.specs.List.{list_all, list_any}
use Rattle.sgml_dtd.specs.text.Characters.{is_separator}
use Rattle.sgml_records.specs.Facts.{Facts, no_facts, takes_end, noted}
use Rattle.sgml_dtd.specs.model.Term.{Term, empty, name, pcdata, seq, or, and, opt, plus, rep, member, round, Terms, none, more}
use Rattle.sgml_dtd.specs.marked.declared.status.Status.{Status}
use Rattle.sgml_dtd.specs.marked.declared.status.Status.TheVariants as status
use Rattle.sgml_dtd.specs.marked.declared.sections.Section.{Section}
use Rattle.sgml_dtd.specs.Doctypes.{Doctype}
use Rattle.sgml_theory_reading.specs.Names.{Name}
use Rattle.sgml_theory_reading.specs.Types.{Content, Model, Any, Cdata, Rcdata, Void}
use Rattle.sgml_theory_reading.specs.Types.{type_of, content_of, has_conref}
use Rattle.sgml_theory_reading.specs.Pieces.{Specification, Meaning, Ordinary, Kind, SubsetEnd, Char, Re, Rs, Sep, ShortRef, Piece}
use Rattle.sgml_theory_reading.specs.Facets.{byte_item}
use Rattle.sgml_theory_reading.specs.Context.{Level}
use Rattle.sgml_theory_reading.specs.State.{State}

-- #PCDATA is a token of the model
abbrev mutual
  pub mentions_text : Term → Bool
  mentions_text empty = false
  mentions_text (name k n) = false
  mentions_text (pcdata k) = true
  mentions_text (seq ms) = some_mentions ms
  mentions_text (or ms) = some_mentions ms
  mentions_text (and ms) = some_mentions ms
  mentions_text (opt m) = mentions_text m
  mentions_text (plus m) = mentions_text m
  mentions_text (rep m) = mentions_text m
  mentions_text (member r left) = mentions_text r || some_mentions left
  mentions_text (round r m) = mentions_text r || mentions_text m

  pub some_mentions : Terms → Bool
  some_mentions none = false
  some_mentions (more m ms) = mentions_text m || some_mentions ms

abbrev pub content_has_text : Content → Bool
content_has_text (Model term) = mentions_text term
content_has_text Any = true
content_has_text Cdata = true
content_has_text Rcdata = true
content_has_text Void = false

abbrev pub level_has_text : Doctype → List Level → Bool
level_has_text d [] = false
level_has_text d (l ∷ ls) = content_has_text (content_of (type_of d l.element))

-- the innermost element has #PCDATA in its content; outside the document element there is none
unfoldable pub has_text : State → Bool
has_text s = level_has_text s.context.doctype s.context.levels

abbrev pub is_text_status : Status → Bool
is_text_status status.Cdata = true
is_text_status status.Rcdata = true
is_text_status _ = false

abbrev pub in_text_section : List Section → Bool
in_text_section [] = false
in_text_section (s ∷ ss) = is_text_status s.status

abbrev pub facts_in : List Facts → Facts
facts_in [] = no_facts
facts_in (f ∷ fs) = f

-- what a separator is that is no part of markup: a record end or start, data, or ignored
unfoldable pub separator_kind : State → ℕ → Kind
separator_kind s b =
    if b == 13 then (if has_text s then Re (takes_end (facts_in s.record_ends)) else Sep b)
    else (if b == 10 then (if has_text s then Rs else Sep b)
    else (if has_text s || in_text_section s.sections then Char b else Sep b))

-- A SHORT REFERENCE STRING that stands for its bytes

-- a byte is content: it is no record start, and no record end that is ignored there
abbrev pub is_content_byte : Facts → ℕ → Bool
is_content_byte f b = if b == 13 then takes_end f else (if b == 10 then false else true)

abbrev pub some_content : Facts → List ℕ → Bool
some_content f [] = false
some_content f (b ∷ bs) = is_content_byte f b || some_content (noted f (byte_item b)) bs

-- separators alone are ignored where separators are
abbrev pub has_items : State → List ℕ → Bool
has_items s string = if list_all is_separator string then has_text s else true

unfoldable pub ordinary : State → List ℕ → Meaning
ordinary s string = Ordinary (has_items s string) (has_items s string && some_content (facts_in s.record_ends) string)

abbrev pub meaning_noted : State → List ℕ → Meaning → Meaning
meaning_noted s string (Ordinary has_items content) = ordinary s string
meaning_noted s string meaning = meaning

-- WHAT IS NOTED of a piece in the state before it and before the omitted pieces that stand for it
unfoldable pub kind_noted : State → Kind → Kind
kind_noted s (Re live) = Re (takes_end (facts_in s.record_ends))
kind_noted s (ShortRef string meaning) = ShortRef string (meaning_noted s string meaning)
kind_noted s (SubsetEnd reads_external) = SubsetEnd (is_some s.subset)
kind_noted s kind = kind

abbrev pub piece_noted : State → Piece → Piece
piece_noted s p = record { kind = kind_noted s p.kind; size = p.size; spent = p.spent }

-- A START ENDS AT ONCE where its type is declared EMPTY, or an attribute is specified that stands
-- for the content (7.3, 11.3.4)
abbrev pub is_void : Content → Bool
is_void Void = true
is_void _ = false

abbrev pub is_conref_of : Doctype → Name → Option Name → Bool
is_conref_of d n None = false
is_conref_of d n (Some a) = has_conref d n a

unfoldable pub ends_at_once : Doctype → Name → List Specification → Bool
ends_at_once d n specifications =
    is_void (content_of (type_of d n)) || list_any (λ (s : Specification). is_conref_of d n s.attribute) specifications
