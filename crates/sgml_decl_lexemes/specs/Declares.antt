-- DECLARES (ISO 8879 10, 11): which list of lexemes the declaration has that begins at the top of
-- the stack, or why it has none; in the same way the start of a marked section (10.4), the end of a
-- document type (11.1) and a literal of a tag (7.9.3).
use Rattle.std.specs.Prelude.{ℕ, Bool, true, false, ◌+◌, ◌-◌, ◌<◌, ◌==◌, ◌&&◌, ◌||◌, not, ◌≡◌, List, [], ◌∷◌, ◌++◌, length, take, drop, map, Option, None, Some, Result, Ok, Err, if◌then◌else◌}
use Rattle.std.specs.List.{list_all}
use Rattle.sgml_text.specs.Units.{characters}
use Rattle.sgml_text.specs.declared.unit.Unit.{Unit as AnyUnit}
use Rattle.sgml_decl_lexemes.specs.declared.lexeme.Lexeme.TheVariants.{Value}
use Rattle.sgml_text.specs.declared.place.Place.{Place}
use Rattle.sgml_text.specs.declared.reason.Reason.{Reason}
use Rattle.sgml_text.specs.declared.name_set.NameSet.{NameSet}
use Rattle.sgml_text.specs.declared.reason.Reason.TheVariants as reason
use Rattle.sgml_syntax.specs.declared.syntax.Syntax.{Syntax}
use Rattle.sgml_entity.specs.declared.kinds.Entity.{Entity}
use Rattle.sgml_entity.specs.Entities.{entity_at, Tables}
use Rattle.sgml_entity.specs.Texts.{with_more}
use Rattle.sgml_entity.specs.Stack.{Stack, offset_of, moved, moved_to}
use Rattle.sgml_decl_parts.specs.declared.part.Part.{Part}
use Rattle.sgml_text.specs.Characters.{is_sgml_character, all_sgml, is_quote}
use Rattle.sgml_decl_parts.specs.Ends.{construct_end}
use Rattle.sgml_decl_parts.specs.declared.ends.Construct.{Construct}
use Rattle.sgml_decl_parts.specs.declared.ends.Construct.TheVariants as construct
use Rattle.sgml_decl_lexemes.specs.declared.lexeme.Lexeme.{Lexeme}
use Rattle.sgml_decl_lexemes.specs.declared.fault.Fault.{Fault}
use Rattle.sgml_decl_lexemes.specs.declared.fault.Fault.TheVariants.{Wanting, Refusing}
use Rattle.sgml_decl_lexemes.specs.declared.fault.LexError.{LexError}
use Rattle.sgml_decl_lexemes.specs.declared.fault.LexError.TheVariants as error
use Rattle.sgml_decl_lexemes.specs.Sources.{Source, unread, without, text_at, or_empty, internal_text}
use Rattle.sgml_decl_lexemes.specs.Readings.{entity_of, State, ahead, after, next_part, closes, advanced, start, EndsWithQuote}

-- It is read as a list of parts, kept with the newest first. What was read after the
-- parts:
abbrev pub state : Source → Stack → List Part → State
state I s [] = start I s
state I s (p ∷ ps) = after I (ahead I (state I s ps)) p (state I s ps)

abbrev pub is_closed : Construct → List Part → Bool
is_closed c [] = false
is_closed c (p ∷ ps) = closes c p

-- each part is the one that stands at its place, and nothing follows the end
abbrev pub ReadsParts : Source → Stack → List Part → Type 0
ReadsParts I s [] = Unit {0}
ReadsParts I s (p ∷ ps) = ReadsParts I s ps × (is_closed I.construct ps ≡ false) × (next_part I (state I s ps) ≡ Ok p)

-- THE LEXEMES are those of a list of parts up to the end, and the stack then stands after it.
pub record HasLexemes (I : Source) (s : Stack) (ds : List Lexeme) (after : Stack) : Type 0 where
  pub parts : List Part
  pub reads : ReadsParts I s parts
  pub whole : is_closed I.construct parts ≡ true
  pub lexemes_are : ds ≡ (state I s parts).reading.lexemes
  pub stack_is : after ≡ (state I s parts).stack

-- WHERE READING STOPS before the end
pub record StopsBy (I : Source) (s : Stack) (fault : Fault) : Type 0 where
  pub parts : List Part
  pub reads : ReadsParts I s parts
  pub unfinished : is_closed I.construct parts ≡ false
  pub fault_is : next_part I (state I s parts) ≡ Err fault

-- where reading stops by an error
abbrev pub IsStop : Source → Stack → LexError → Type 0
IsStop I s error.Memory = Unit {0}
IsStop I s (error.Wanted n) = StopsBy I s (Wanting n)
IsStop I s (error.Refused r) = StopsBy I s (Refusing r)
IsStop I s error.NeedMore = ⊥

-- what is read, and from what
pub record Asked : Type 0 where
  pub construct : Construct
  pub syntax : Syntax
  pub entities : List Entity
  pub texts : List (ℕ × List ℕ)
  pub stack : Stack
  -- the document's text is whole
  pub ended : Bool

abbrev pub asked : Construct → Syntax → Tables → List (ℕ × List ℕ) → Stack → Bool → Asked
asked construct syntax tables texts stack ended =
    record { construct = construct; syntax = syntax; entities = tables.entities; texts = texts; stack = stack; ended = ended }

-- ITS OWN TEXT, by the text at the top of the stack alone
pub data Own : Type 0 where
  -- it is all there
  Whole : (own : List ℕ) → Own
  -- its end may still come
  Growing : Own
  -- why it is refused whatever it says
  Bad : (why : Reason) → Own

-- the text in which it stands, and what is left of that
abbrev pub text : Asked → List ℕ
text q = or_empty (text_at q.entities q.texts (entity_of q.stack.places))

abbrev pub rest : Asked → List ℕ
rest q = drop (offset_of q.stack.places) (text q)

-- only the document's text may grow (entity 0)
abbrev pub may_grow : Asked → Bool
may_grow q = (entity_of q.stack.places == 0) && not q.ended

-- A byte that is no SGML character is refused up to the end, or up to the end of the text (13.1);
-- then an end that isn't there (9.4).
abbrev pub without_end : Bool → List ℕ → Own
without_end grows rest = if grows then Growing else if all_sgml rest then Bad reason.Unclosed else Bad reason.NonSgml

abbrev pub own_by : NameSet → Bool → ℕ → List ℕ → Option ℕ → Own
own_by names grows at text None = without_end grows (drop at text)
own_by names grows at text (Some n) =
    if all_sgml (take n (drop at text)) then Whole (take (at + n) text) else Bad reason.NonSgml

-- that of the text that stands at an offset
abbrev pub own_at : NameSet → Construct → Bool → ℕ → List ℕ → Own
own_at names construct grows at text = own_by names grows at text (construct_end names construct (drop at text))

abbrev pub own : Asked → Own
own q = own_by q.syntax.names (may_grow q) (offset_of q.stack.places) (text q) (construct_end q.syntax.names q.construct (rest q))

-- the offset directly after it
abbrev pub end_by : ℕ → Option ℕ → ℕ
end_by at None = at
end_by at (Some n) = at + n

abbrev pub end_offset : Asked → ℕ
end_offset q = end_by (offset_of q.stack.places) (construct_end q.syntax.names q.construct (rest q))

-- the stack directly after it
abbrev pub StandsAfter : Asked → Stack → Type 0
StandsAfter q after = after.places ≡ moved_to (end_offset q) q.stack.places

-- so many bytes are one that begins there, up to its end, and each is an SGML character (13.1)
pub record EndsAfter (names : NameSet) (c : Construct) (bytes : List ℕ) (n : ℕ) : Type 0 where
  pub ends : construct_end names c bytes ≡ Some n
  pub sgml : all_sgml (take n bytes) ≡ true

-- what is asked was scanned up to its end
abbrev pub IsScanned : Asked → ℕ → Type 0
IsScanned q n = EndsAfter q.syntax.names q.construct (rest q) n

-- the error where it isn't all there
abbrev pub IsNoOwn : Own → LexError → Type 0
IsNoOwn (Whole own) e = ⊥
IsNoOwn Growing e = e ≡ error.NeedMore
IsNoOwn (Bad why) e = e ≡ error.Refused why

abbrev pub source : Asked → List ℕ → Source
source q own = record {
  construct = q.construct;
  syntax = q.syntax;
  entities = q.entities;
  texts = without (entity_of q.stack.places) q.texts;
  own = own;
  height = length q.stack.places;
}

-- THE ANSWER
abbrev pub IsRead : Source → Stack → Result (List Lexeme) LexError → Stack → Type 0
IsRead I s (Ok ds) after = HasLexemes I s ds after
IsRead I s (Err (error.Wanted n)) after = StopsBy I s (Wanting n) × (after ≡ s)
IsRead I s (Err (error.Refused r)) after = StopsBy I s (Refusing r) × (after ≡ s)
IsRead I s (Err _) after = ⊥

abbrev pub AnswersBy : Asked → Own → Result (List Lexeme) LexError → Stack → Type 0
AnswersBy q (Whole own) a after = IsRead (source q own) q.stack a after
AnswersBy q Growing a after = (a ≡ Err error.NeedMore) × (after ≡ q.stack)
AnswersBy q (Bad why) a after = (a ≡ Err (error.Refused why)) × (after ≡ q.stack)

-- the lexemes and the stack after them, or the refusal, want or need, and the stack as it was
abbrev pub Answers : Asked → Result (List Lexeme) LexError → Stack → Type 0
Answers q a after = AnswersBy q (own q) a after

-- the units of a literal, and the stack after them
abbrev pub AnswersValue : Asked → Stack → List AnyUnit → Type 0
AnswersValue q after units = Answers q (Ok (Value units ∷ [])) after

abbrev pub AnswersError : Asked → LexError → Stack → Type 0
AnswersError q error.Memory after = Unit {0}
AnswersError q e after = Answers q (Err e) after

-- MDO; MDO and DSO; DSC
abbrev pub begins_declaration : List ℕ → Bool
begins_declaration [] = false
begins_declaration (a ∷ []) = false
begins_declaration (a ∷ b ∷ bytes) = (a == 60) && (b == 33)

abbrev pub begins_section : List ℕ → Bool
begins_section [] = false
begins_section (a ∷ []) = false
begins_section (a ∷ b ∷ []) = false
begins_section (a ∷ b ∷ c ∷ bytes) = (a == 60) && (b == 33) && (c == 91)

abbrev pub begins_subset_end : List ℕ → Bool
begins_subset_end [] = false
begins_subset_end (a ∷ bytes) = a == 93

-- A literal begins with LIT or LITA, which stands before.
abbrev pub is_begun : Construct → List ℕ → Bool
is_begun construct.Declaration bytes = begins_declaration bytes
is_begun construct.SectionStart bytes = begins_section bytes
is_begun construct.SubsetEnd bytes = begins_subset_end bytes
is_begun (construct.Literal quote) bytes = is_quote quote

abbrev pub is_some : List Place → Bool
is_some [] = false
is_some (p ∷ ps) = true

-- what is left of the text at the top of the stack
abbrev pub left_at : List Entity → List (ℕ × List ℕ) → List Place → List ℕ
left_at es texts places = drop (offset_of places) (or_empty (text_at es texts (entity_of places)))

-- it begins at the top of the stack
abbrev pub begins : Construct → List Entity → List (ℕ × List ℕ) → List Place → Bool
begins c es texts places = is_some places && is_begun c (left_at es texts places)

-- LAWS
-- what is read from a source begins at the top of the stack
pub record StandsAtStart (I : Source) (s : Stack) : Type 0 where
  pub some : 0 < length s.places
  pub height : I.height ≡ length s.places
  pub quote : EndsWithQuote I.construct (unread I s.places)

-- what is asked begins at the top of the stack
abbrev pub is_asked : Asked → Bool
is_asked q = begins q.construct q.entities q.texts q.stack.places

-- it is one answer
abbrev pub OneAnswer : Type 0
OneAnswer = (q : Asked) (a b : Result (List Lexeme) LexError) (s t : Stack) → Answers q a s → Answers q b t → (a ≡ b) × (s ≡ t)

-- more of the document's text, or the word that it is whole
abbrev pub grown : Asked → List ℕ → Bool → Asked
grown q more ended = record q { texts = with_more (entity_of q.stack.places) more q.texts; ended = ended }

-- Where the end is there, the answer is the same whatever comes after it in that text, which is
-- the document's or another that was given.
abbrev pub DecidedStays : Type 0
DecidedStays =
    (q : Asked) (n : ℕ) → construct_end q.syntax.names q.construct (rest q) ≡ Some n
    → internal_text (entity_at q.entities (entity_of q.stack.places)) ≡ None
    → (more : List ℕ) (ended : Bool) (a : Result (List Lexeme) LexError) (after : Stack)
    → Answers q a after → Answers (grown q more ended) a after

-- WHAT IS UNREAD of the texts counts, and not where in them reading stands: two ask the same where the
-- same is left of the text at the top, the same texts are open, and the other texts are the same.
abbrev pub entities_on : List Place → List ℕ
entities_on ps = map (λ (p : Place). p.entity) ps

pub record AskSame (q r : Asked) : Type 0 where
  pub construct_is : r.construct ≡ q.construct
  pub syntax_is : r.syntax ≡ q.syntax
  pub entities_are : r.entities ≡ q.entities
  pub ended_is : r.ended ≡ q.ended
  pub rest_is : rest r ≡ rest q
  pub open_are : entities_on r.stack.places ≡ entities_on q.stack.places
  pub texts_are : without (entity_of r.stack.places) r.texts ≡ without (entity_of q.stack.places) q.texts
  pub levels_are : r.stack.levels ≡ q.stack.levels
  pub expand_is : r.stack.expand ≡ q.stack.expand
  pub spent_is : r.stack.spent ≡ q.stack.spent

-- The first then answers as the second, with its stack moved as far, and as much spent.
abbrev pub as_far : Stack → Stack → Stack → Stack
as_far s after t = record t { spent = after.spent; places = moved (offset_of after.places - offset_of s.places) t.places }

abbrev pub UnreadCounts : Type 0
UnreadCounts =
    (q r : Asked) → is_asked q ≡ true → AskSame q r
    → (a : Result (List Lexeme) LexError) (after : Stack) → Answers q a after → Answers r a (as_far q.stack after r.stack)

-- The same of a source: another own text, with the same left of it.
pub record LeftSame (I : Source) (own : List ℕ) (s r : Stack) : Type 0 where
  pub rest_is : drop (offset_of r.places) own ≡ drop (offset_of s.places) I.own
  pub open_are : entities_on r.places ≡ entities_on s.places
  pub levels_are : r.levels ≡ s.levels
  pub expand_is : r.expand ≡ s.expand
  pub spent_is : r.spent ≡ s.spent

abbrev pub LeftCounts : Type 0
LeftCounts =
    (I : Source) (own : List ℕ) (s r : Stack) → StandsAtStart I s → LeftSame I own s r
    → (a : Result (List Lexeme) LexError) (after : Stack) → IsRead I s a after → IsRead (record I { own = own }) r a (as_far s after r)

-- A literal of a tag without references is its characters.
abbrev pub is_plain : ℕ → ℕ → Bool
is_plain quote b = is_sgml_character b && not ((b == quote) || (b == 38))

-- the bytes begin with this text, and then the quote
abbrev pub IsQuoted : ℕ → List ℕ → List ℕ → Type 0
IsQuoted quote text bytes = bytes ≡ text ++ (quote ∷ drop (length text + 1) bytes)

abbrev pub PlainLiterals : Type 0
PlainLiterals =
    (q : Asked) (quote : ℕ) (bytes more : List ℕ) → q.construct ≡ construct.Literal quote → is_asked q ≡ true
    → rest q ≡ bytes ++ (quote ∷ more) → list_all (is_plain quote) bytes ≡ true
    → Answers q (Ok (Value (characters bytes) ∷ [])) (advanced (length bytes + 1) q.stack)
