-- Which token a start with a name in it is of: a start-tag (7.4).
use Rattle.std.proofs.Common.{◌≡◌, ℕ, Bool, true, false, not, ◌==◌, ◌&&◌, ◌||◌, ◌-◌, List, Option, None, Some, is_none, Result, Ok, Err, length, codes, refl, sym, ap, ◌∙◌, if◌then◌else◌}
use Rattle.sgml_text.specs.Characters.{is_separator}
use Rattle.sgml_text.specs.declared.reason.Reason.{Reason}
use Rattle.sgml_text.specs.declared.reason.Reason.TheVariants as reason
use Rattle.sgml_syntax.specs.declared.syntax.Syntax.{Syntax}
use Rattle.sgml_scan.specs.delim.declared.delim.Mode.{Mode}
use Rattle.sgml_scan.specs.delim.declared.delim.Mode.TheVariants as mode
use Rattle.sgml_markup.specs.declared.kinds.TokenKind.{TokenKind}
use Rattle.sgml_markup.specs.declared.kinds.TokenKind.TheVariants as kind
use Rattle.sgml_prolog_steps.specs.marked.declared.status.Status.{Status}
use Rattle.sgml_prolog_steps.specs.marked.Keywords.{status_by}
use Rattle.sgml_prolog_steps.specs.decl_lexemes.declared.lexeme.Lexeme.{Lexeme}
use Rattle.sgml_prolog_steps.specs.decl_parts.declared.ends.Construct.TheVariants as construct
use Rattle.sgml_dtd.specs.dtd_elements.sgml_decl_forms.declared.declaration.Declaration.{Declaration}
use Rattle.sgml_dtd.specs.dtd_elements.sgml_decl_forms.declared.declaration.Declaration.TheVariants as form
use Rattle.sgml_dtd.specs.dtd_elements.sgml_decl_forms.Declarations.{declaration_at}
use Rattle.sgml_dtd.specs.dtd_maps.Rows.{use_reason}
use Rattle.sgml_dtd.specs.Doctypes.{Doctype}
use Rattle.sgml_theory_spelling.specs.theory_reading.Names.{Name, Text}
use Rattle.sgml_theory_spelling.specs.theory_reading.Pieces.{Piece, Kind, Start, How, Short, Net, Meaning, Ordinary, ToText, ToData, ToExternalData, ToInstruction, DataRef, Pi}
use Rattle.sgml_theory_spelling.specs.theory_reading.ShortTags.{empty_start_type, empty_end_type, net_type}
use Rattle.sgml_theory_spelling.specs.theory_reading.Unread.{Outside}
use Rattle.sgml_theory_spelling.specs.theory_reading.State.{State, sources_in}
use Rattle.sgml_theory_spelling.specs.theory_reading.Characters.{separator_kind, has_text, in_text_section}
use Rattle.sgml_theory_spelling.specs.Stacked.{Stacked}
use Rattle.sgml_theory_spelling.specs.Sized.{sized_ok, spent_ok}
use Rattle.sgml_theory_spelling.specs.Places.{map_at, in_section}
use Rattle.sgml_theory_spelling.specs.References.{meaning_of, unless_rcdata, referring_kind}
use Rattle.sgml_theory_spelling.specs.Declared.{Lexed, lexed}
use Rattle.sgml_theory_spelling.specs.SgmlDeclared.{has_keyword}
use Rattle.sgml_theory_spelling.specs.Content.{first_of, character_kind, is_rcdata, kind_by_meaning, kind_of_string, mapped_kind, entity_of_string, short_start, ending_of, is_data_status, keywords_in, section_of, section_by, section_start, section_piece, section_end, has_open, map_used, use_of, or_reason, declared_kind, declared_piece, content_piece}

-- a start that isn't that of an empty tag
abbrev is_short : How → Bool
is_short Short = true
is_short _ = false

abbrev pub is_tag : Kind → Bool
is_tag (Start n specifications how proper at_once) = not (is_short how)
is_tag _ = false

abbrev NoTag : Result Piece Reason → Type 0
NoTag (Ok p) = is_tag p.kind ≡ false
NoTag (Err r) = Unit {0}

abbrev KindNoTag : Result Kind Reason → Type 0
KindNoTag (Ok k) = is_tag k ≡ false
KindNoTag (Err r) = Unit {0}

spent-no-tag : (n spent : ℕ) (x : Result Kind Reason) → KindNoTag x → NoTag (spent_ok n spent x)
spent-no-tag n spent (Ok k) e = e
spent-no-tag n spent (Err r) e = tt

ok-no-tag : (n : ℕ) (x : Result Kind Reason) → KindNoTag x → NoTag (sized_ok n x)
ok-no-tag n x e = spent-no-tag n 0 x e

if-no-tag : (t : Bool) (x y : Result Piece Reason) → NoTag x → NoTag y → NoTag (if t then x else y)
if-no-tag true x y p q = p
if-no-tag false x y p q = q

if-kinds : (t : Bool) (x y : Result Kind Reason) → KindNoTag x → KindNoTag y → KindNoTag (if t then x else y)
if-kinds true x y p q = p
if-kinds false x y p q = q

if-kind : (t : Bool) (x y : Kind) → is_tag x ≡ false → is_tag y ≡ false → is_tag (if t then x else y) ≡ false
if-kind true x y p q = p
if-kind false x y p q = q

-- CHARACTERS

separator-no-tag : (s : State) (b : ℕ) → is_tag (separator_kind s b) ≡ false
unfolding separator_kind
separator-no-tag s b =
    if-kind (b == 13) _ _ (if-kind (has_text s) _ _ refl refl)
    (if-kind (b == 10) _ _ (if-kind (has_text s) _ _ refl refl) (if-kind (has_text s || in_text_section s.sections) _ _ refl refl))

character-no-tag : (s : State) (m : Mode) (b : ℕ) → is_tag (character_kind s m b) ≡ false
character-no-tag s mode.Ign b = refl
character-no-tag s _ b = if-kind (is_separator b) _ _ (separator-no-tag s b) refl

-- REFERENCES

rcdata-no-tag : (t : Bool) (k : Kind) → is_tag k ≡ false → KindNoTag (unless_rcdata t k)
rcdata-no-tag true k e = tt
rcdata-no-tag false k e = e

referring-no-tag : (t : Bool) (m : Meaning) → KindNoTag (referring_kind t m)
referring-no-tag t (ToText n) = refl
referring-no-tag t (ToData n) = refl
referring-no-tag t (ToExternalData n) = rcdata-no-tag t (DataRef n) refl
referring-no-tag t (ToInstruction n text) = rcdata-no-tag t (Pi text (Some n)) refl
referring-no-tag t (Ordinary x c) = tt

meaning-no-tag : (t : Bool) (x : Result Meaning Reason) → KindNoTag (kind_by_meaning t x)
meaning-no-tag t (Ok m) = referring-no-tag t m
meaning-no-tag t (Err r) = tt

string-no-tag : (string : Text) (x : Result Meaning Reason) → KindNoTag (kind_of_string string x)
string-no-tag string (Ok m) = refl
string-no-tag string (Err r) = tt

mapped-no-tag : (outside : Outside) (s : State) (t : Stacked) (string : Text) (o : Option Name) → KindNoTag (mapped_kind outside s t string o)
mapped-no-tag outside s t string None = refl
mapped-no-tag outside s t string (Some n) = string-no-tag string (meaning_of outside (sources_in s) t n)

-- TAGS

short-no-tag : (o : Option Name) → KindNoTag (short_start o)
short-no-tag None = tt
short-no-tag (Some n) = refl

ending-no-tag : (how : How) (o : Option Name) → KindNoTag (ending_of how o)
ending-no-tag how None = tt
ending-no-tag how (Some n) = refl

-- SECTIONS

section-of-no-tag : (syntax : Syntax) (xs : List Lexeme) (t : Bool) (n spent : ℕ) (x : Result Status ℕ) → NoTag (section_of syntax xs t n spent x)
section-of-no-tag syntax xs t n spent (Err i) = tt
section-of-no-tag syntax xs t n spent (Ok st) = if-no-tag (t && is_data_status st) _ _ tt refl

section-by-no-tag : (syntax : Syntax) (t : Stacked) (b : Bool) (n : ℕ) (x : Result Lexed Reason) → NoTag (section_by syntax t b n x)
section-by-no-tag syntax t b n (Err r) = tt
section-by-no-tag syntax t b n (Ok x) = section-of-no-tag syntax x.lexemes b n (x.spent - t.spent) (status_by (keywords_in x.lexemes))

section-start-no-tag : (outside : Outside) (d : Doctype) (t : Stacked) (b : Bool) (own : List ℕ) → NoTag (section_start outside d t b own)
unfolding section_start
section-start-no-tag outside d t b own = section-by-no-tag d.syntax t b (length own) (lexed construct.SectionStart outside d t own)

section-no-tag : (outside : Outside) (d : Doctype) (t : Stacked) (m : Mode) (b : Bool) (own : List ℕ) → NoTag (section_piece outside d t m b own)
section-no-tag outside d t mode.Ign b own = refl
section-no-tag outside d t _ b own = section-start-no-tag outside d t b own

section-end-no-tag : (s : State) (n : ℕ) → NoTag (section_end s n)
section-end-no-tag s n = if-no-tag (in_section s.texts s.sections) _ _ refl tt

-- DECLARATIONS

use-no-tag : (x : Result (Option ℕ) Reason) → KindNoTag (use_of x)
use-no-tag (Ok m) = refl
use-no-tag (Err r) = tt

or-no-tag : (o : Option Reason) (x : Result Kind Reason) → KindNoTag x → KindNoTag (or_reason o x)
or-no-tag (Some r) x e = tt
or-no-tag None x e = e

declared-kind-no-tag : (s : State) (o : Option Declaration) → KindNoTag (declared_kind s o)
declared-kind-no-tag s None = tt
declared-kind-no-tag s (Some (form.Usemap u)) =
    if-kinds (is_none u.targets && has_open s.context.levels) _ _
    (or-no-tag (use_reason s.context.doctype.syntax u) _ (use-no-tag (map_used s.context.doctype u.map))) tt
declared-kind-no-tag s (Some _) = tt

declared-piece-no-tag : (outside : Outside) (s : State) (t : Stacked) (own : List ℕ) (x : Result Lexed Reason) → NoTag (declared_piece outside s t own x)
declared-piece-no-tag outside s t own (Err r) = tt
declared-piece-no-tag outside s t own (Ok x) =
    spent-no-tag (length own) (x.spent - t.spent) (declared_kind s (declaration_at x.lexemes)) (declared-kind-no-tag s (declaration_at x.lexemes))

-- BY THE TOKEN
no-tag : (x : Result Piece Reason) (p : Piece) → NoTag x → x ≡ Ok p → is_tag p.kind ≡ true → ⊥
no-tag (Ok q) p n e t =
    let f : q ≡ p = cc in
    let g : false ≡ true = sym n ∙ (ap (λ (z : Piece). is_tag z.kind) f ∙ t) in cc
no-tag (Err r) p n e t = cc

pub content-tag : (outside : Outside) (s : State) (t : Stacked) (m : Mode) (k : TokenKind) (own : List ℕ) (p : Piece)
    → content_piece outside s t m k own ≡ Ok p → is_tag p.kind ≡ true → k ≡ kind.StartTag
unfolding content_piece
content-tag outside s t m kind.Chars own p e is = absurd (no-tag _ p (character-no-tag s m (first_of own)) e is)
content-tag outside s t m kind.Re own p e is = absurd (no-tag _ p (separator-no-tag s 13) e is)
content-tag outside s t m kind.Rs own p e is = absurd (no-tag _ p (separator-no-tag s 10) e is)
content-tag outside s t m (kind.ShortRef i) own p e is = absurd (no-tag _ p (ok-no-tag (length own) _ (mapped-no-tag outside s t own (entity_of_string s.context.doctype (map_at s) i))) e is)
content-tag outside s t m kind.StartTag own p e is = refl
content-tag outside s t m kind.EmptyStart own p e is = absurd (no-tag _ p (ok-no-tag (length own) _ (short-no-tag (empty_start_type s.context s.ended))) e is)
content-tag outside s t m kind.EndTag own p e is = absurd (no-tag _ p (refl) e is)
content-tag outside s t m kind.EmptyEnd own p e is = absurd (no-tag _ p (ok-no-tag (length own) _ (ending-no-tag Short (empty_end_type s.context))) e is)
content-tag outside s t m kind.Net own p e is = absurd (no-tag _ p (ok-no-tag (length own) _ (ending-no-tag Net (net_type s.context))) e is)
content-tag outside s t m kind.EntityRef own p e is = absurd (no-tag _ p (ok-no-tag (length own) _ (meaning-no-tag (is_rcdata m) _)) e is)
content-tag outside s t m (kind.CharRef b) own p e is = absurd (no-tag _ p (refl) e is)
content-tag outside s t m (kind.FunctionRef b) own p e is = absurd (no-tag _ p (separator-no-tag s b) e is)
content-tag outside s t m kind.Pi own p e is = absurd (no-tag _ p (refl) e is)
content-tag outside s t m kind.Comment own p e is = absurd (no-tag _ p (refl) e is)
content-tag outside s t m kind.SectionStart own p e is = absurd (no-tag _ p (section-no-tag outside s.context.doctype t m false own) e is)
content-tag outside s t m kind.SectionEnd own p e is = absurd (no-tag _ p (section-end-no-tag s (length own)) e is)
content-tag outside s t m kind.Declaration own p e is = absurd (no-tag _ p (if-no-tag (has_keyword s.context.doctype.syntax.names (codes "SGML") own) _ _ tt (declared-piece-no-tag outside s t own (lexed construct.Declaration outside s.context.doctype t own))) e is)
content-tag outside s t m _ own p e is = absurd (no-tag (Err reason.DeclarationSyntax) p tt e is)
