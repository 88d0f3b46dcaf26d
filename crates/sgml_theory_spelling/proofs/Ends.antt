-- What has a token is no end of a text.
use Rattle.std.proofs.Common.{◌≡◌, ℕ, Bool, true, false, ◌==◌, ◌&&◌, ◌||◌, ◌-◌, List, Option, None, Some, is_none, Result, Ok, Err, length, nat_lt, codes, refl, if◌then◌else◌}
use Rattle.sgml_scan.specs.text.Characters.{is_separator}
use Rattle.sgml_scan.specs.text.declared.reason.Reason.{Reason}
use Rattle.sgml_scan.specs.syntax.declared.syntax.Syntax.{Syntax}
use Rattle.sgml_scan.specs.delim.declared.delim.Mode.{Mode}
use Rattle.sgml_scan.specs.delim.declared.delim.Mode.TheVariants as mode
use Rattle.sgml_theory_reading.specs.entity.declared.kinds.Body.{Body}
use Rattle.sgml_theory_reading.specs.entity.declared.kinds.Body.TheVariants as body
use Rattle.sgml_theory_reading.specs.entity.declared.kinds.Space.TheVariants as space
use Rattle.sgml_scan.specs.markup.declared.kinds.TokenKind.{TokenKind}
use Rattle.sgml_scan.specs.markup.declared.kinds.TokenKind.TheVariants as kind
use Rattle.sgml_theory_reading.specs.marked.declared.status.Status.{Status}
use Rattle.sgml_theory_reading.specs.marked.Keywords.{status_by}
use Rattle.sgml_theory_reading.specs.decl_lexemes.declared.lexeme.Lexeme.{Lexeme}
use Rattle.sgml_theory_reading.specs.decl_parts.declared.ends.Construct.TheVariants as construct
use Rattle.sgml_theory_reading.specs.decl_parts.Ends.{is_doctype}
use Rattle.sgml_theory_reading.specs.decl_forms.declared.declaration.Declaration.{Declaration}
use Rattle.sgml_theory_reading.specs.decl_forms.declared.declaration.Declaration.TheVariants as form
use Rattle.sgml_theory_reading.specs.decl_forms.Declarations.{declaration_at}
use Rattle.sgml_theory_reading.specs.dtd_maps.Rows.{use_reason}
use Rattle.sgml_theory_reading.specs.dtd.Doctypes.{Doctype}
use Rattle.sgml_theory_reading.specs.Names.{Name, Text}
use Rattle.sgml_theory_reading.specs.Types.{entity_number, body_of}
use Rattle.sgml_theory_reading.specs.Pieces.{Piece, Kind, How, Short, Net, Meaning, Ordinary, ToText, ToData, ToExternalData, ToInstruction, DataRef, Ref, Pi}
use Rattle.sgml_theory_reading.specs.ShortTags.{empty_start_type, empty_end_type, net_type}
use Rattle.sgml_theory_reading.specs.Unread.{Outside, Sources}
use Rattle.sgml_theory_reading.specs.State.{State, sources_in}
use Rattle.sgml_theory_reading.specs.Characters.{separator_kind, has_text, in_text_section}
use Rattle.sgml_theory_spelling.specs.Stacked.{Stacked}
use Rattle.sgml_theory_spelling.specs.Sized.{sized_ok, spent_ok, unless_reason}
use Rattle.sgml_theory_spelling.specs.Places.{map_at, in_section}
use Rattle.sgml_theory_spelling.specs.References.{meaning_of, unless, unless_rcdata, referring_kind, parameter_text, parameter_of_number, parameter_kind}
use Rattle.sgml_theory_spelling.specs.Declared.{Lexed, lexed}
use Rattle.sgml_theory_spelling.specs.SgmlDeclared.{has_keyword}
use Rattle.sgml_theory_spelling.specs.Content.{first_of, character_kind, is_rcdata, kind_by_meaning, kind_of_string, mapped_kind, entity_of_string, short_start, ending_of, is_data_status, keywords_in, section_of, section_by, section_start, section_piece, section_end, has_open, map_used, use_of, or_reason, declared_kind, declared_piece, content_piece}
use Rattle.sgml_theory_spelling.specs.Prolog.{head_by, head_lexed, piece_before, declared_by, declared_lexed, end_by, in_document, subset_piece}
use Rattle.sgml_theory_spelling.specs.Taken.{is_text_end}

abbrev pub NoEnd : Result Piece Reason → Type 0
NoEnd (Ok p) = is_text_end p.kind ≡ false
NoEnd (Err r) = Unit {0}

abbrev KindNoEnd : Result Kind Reason → Type 0
KindNoEnd (Ok k) = is_text_end k ≡ false
KindNoEnd (Err r) = Unit {0}

spent-no-end : (n spent : ℕ) (x : Result Kind Reason) → KindNoEnd x → NoEnd (spent_ok n spent x)
spent-no-end n spent (Ok k) e = e
spent-no-end n spent (Err r) e = tt

ok-no-end : (n : ℕ) (x : Result Kind Reason) → KindNoEnd x → NoEnd (sized_ok n x)
ok-no-end n x e = spent-no-end n 0 x e

if-no-end : (t : Bool) (x y : Result Piece Reason) → NoEnd x → NoEnd y → NoEnd (if t then x else y)
if-no-end true x y p q = p
if-no-end false x y p q = q

if-kinds : (t : Bool) (x y : Result Kind Reason) → KindNoEnd x → KindNoEnd y → KindNoEnd (if t then x else y)
if-kinds true x y p q = p
if-kinds false x y p q = q

if-kind : (t : Bool) (x y : Kind) → is_text_end x ≡ false → is_text_end y ≡ false → is_text_end (if t then x else y) ≡ false
if-kind true x y p q = p
if-kind false x y p q = q

unless-no-end : (o : Option Reason) (p : Piece) → is_text_end p.kind ≡ false → NoEnd (unless_reason o p)
unless-no-end (Some r) p e = tt
unless-no-end None p e = e

unless-kind : (o : Option Reason) (k : Kind) → is_text_end k ≡ false → KindNoEnd (unless o k)
unless-kind (Some r) k e = tt
unless-kind None k e = e

-- CHARACTERS

separator-no-end : (s : State) (b : ℕ) → is_text_end (separator_kind s b) ≡ false
unfolding separator_kind
separator-no-end s b =
    if-kind (b == 13) _ _ (if-kind (has_text s) _ _ refl refl)
    (if-kind (b == 10) _ _ (if-kind (has_text s) _ _ refl refl) (if-kind (has_text s || in_text_section s.sections) _ _ refl refl))

character-no-end : (s : State) (m : Mode) (b : ℕ) → is_text_end (character_kind s m b) ≡ false
character-no-end s mode.Ign b = refl
character-no-end s _ b = if-kind (is_separator b) _ _ (separator-no-end s b) refl

-- REFERENCES

rcdata-no-end : (t : Bool) (k : Kind) → is_text_end k ≡ false → KindNoEnd (unless_rcdata t k)
rcdata-no-end true k e = tt
rcdata-no-end false k e = e

referring-no-end : (t : Bool) (m : Meaning) → KindNoEnd (referring_kind t m)
referring-no-end t (ToText n) = refl
referring-no-end t (ToData n) = refl
referring-no-end t (ToExternalData n) = rcdata-no-end t (DataRef n) refl
referring-no-end t (ToInstruction n text) = rcdata-no-end t (Pi text (Some n)) refl
referring-no-end t (Ordinary x c) = tt

meaning-no-end : (t : Bool) (x : Result Meaning Reason) → KindNoEnd (kind_by_meaning t x)
meaning-no-end t (Ok m) = referring-no-end t m
meaning-no-end t (Err r) = tt

string-no-end : (string : Text) (x : Result Meaning Reason) → KindNoEnd (kind_of_string string x)
string-no-end string (Ok m) = refl
string-no-end string (Err r) = tt

mapped-no-end : (outside : Outside) (s : State) (t : Stacked) (string : Text) (o : Option Name) → KindNoEnd (mapped_kind outside s t string o)
mapped-no-end outside s t string None = refl
mapped-no-end outside s t string (Some n) = string-no-end string (meaning_of outside (sources_in s) t n)

parameter-text-no-end : (outside : Outside) (k : Sources) (t : Stacked) (n : ℕ) (o : Option Body) → KindNoEnd (parameter_text outside k t n o)
parameter-text-no-end outside k t n None = tt
parameter-text-no-end outside k t n (Some (body.Sgml text)) = unless-kind _ (Ref n) refl
parameter-text-no-end outside k t n (Some (body.External external)) = unless-kind _ (Ref n) refl
parameter-text-no-end outside k t n (Some (body.Pi text)) = if-kinds (nat_lt k.doctype.syntax.quantities.pilen (length text)) _ _ tt refl
parameter-text-no-end outside k t n (Some _) = tt

parameter-number-no-end : (outside : Outside) (k : Sources) (t : Stacked) (o : Option ℕ) → KindNoEnd (parameter_of_number outside k t o)
parameter-number-no-end outside k t None = tt
parameter-number-no-end outside k t (Some n) = parameter-text-no-end outside k t n (body_of k.doctype n)

parameter-no-end : (outside : Outside) (k : Sources) (t : Stacked) (n : Name) → KindNoEnd (parameter_kind outside k t n)
unfolding parameter_kind
parameter-no-end outside k t n = parameter-number-no-end outside k t (entity_number k.doctype space.Parameter n)

-- TAGS

short-no-end : (o : Option Name) → KindNoEnd (short_start o)
short-no-end None = tt
short-no-end (Some n) = refl

ending-no-end : (how : How) (o : Option Name) → KindNoEnd (ending_of how o)
ending-no-end how None = tt
ending-no-end how (Some n) = refl

-- SECTIONS

section-of-no-end : (syntax : Syntax) (xs : List Lexeme) (t : Bool) (n spent : ℕ) (x : Result Status ℕ) → NoEnd (section_of syntax xs t n spent x)
section-of-no-end syntax xs t n spent (Err i) = tt
section-of-no-end syntax xs t n spent (Ok st) = if-no-end (t && is_data_status st) _ _ tt refl

section-by-no-end : (syntax : Syntax) (t : Stacked) (b : Bool) (n : ℕ) (x : Result Lexed Reason) → NoEnd (section_by syntax t b n x)
section-by-no-end syntax t b n (Err r) = tt
section-by-no-end syntax t b n (Ok x) = section-of-no-end syntax x.lexemes b n (x.spent - t.spent) (status_by (keywords_in x.lexemes))

section-start-no-end : (outside : Outside) (d : Doctype) (t : Stacked) (b : Bool) (own : List ℕ) → NoEnd (section_start outside d t b own)
unfolding section_start
section-start-no-end outside d t b own = section-by-no-end d.syntax t b (length own) (lexed construct.SectionStart outside d t own)

section-no-end : (outside : Outside) (d : Doctype) (t : Stacked) (m : Mode) (b : Bool) (own : List ℕ) → NoEnd (section_piece outside d t m b own)
section-no-end outside d t mode.Ign b own = refl
section-no-end outside d t _ b own = section-start-no-end outside d t b own

section-end-no-end : (s : State) (n : ℕ) → NoEnd (section_end s n)
section-end-no-end s n = if-no-end (in_section s.texts s.sections) _ _ refl tt

-- DECLARATIONS

use-no-end : (x : Result (Option ℕ) Reason) → KindNoEnd (use_of x)
use-no-end (Ok m) = refl
use-no-end (Err r) = tt

or-no-end : (o : Option Reason) (x : Result Kind Reason) → KindNoEnd x → KindNoEnd (or_reason o x)
or-no-end (Some r) x e = tt
or-no-end None x e = e

declared-kind-no-end : (s : State) (o : Option Declaration) → KindNoEnd (declared_kind s o)
declared-kind-no-end s None = tt
declared-kind-no-end s (Some (form.Usemap u)) =
    if-kinds (is_none u.targets && has_open s.context.levels) _ _
    (or-no-end (use_reason s.context.doctype.syntax u) _ (use-no-end (map_used s.context.doctype u.map))) tt
declared-kind-no-end s (Some _) = tt

declared-piece-no-end : (outside : Outside) (s : State) (t : Stacked) (own : List ℕ) (x : Result Lexed Reason) → NoEnd (declared_piece outside s t own x)
declared-piece-no-end outside s t own (Err r) = tt
declared-piece-no-end outside s t own (Ok x) =
    spent-no-end (length own) (x.spent - t.spent) (declared_kind s (declaration_at x.lexemes)) (declared-kind-no-end s (declaration_at x.lexemes))

head-by-no-end : (outside : Outside) (k : Sources) (t : Stacked) (n : ℕ) (x : Lexed) (o : Option Declaration) → NoEnd (head_by outside k t n x o)
head-by-no-end outside k t n x (Some (form.Doctype h)) = unless-no-end _ _ refl
head-by-no-end outside k t n x _ = tt

head-no-end : (outside : Outside) (k : Sources) (t : Stacked) (n : ℕ) (x : Result Lexed Reason) → NoEnd (head_lexed outside k t n x)
head-no-end outside k t n (Err r) = tt
head-no-end outside k t n (Ok x) = head-by-no-end outside k t n x (declaration_at x.lexemes)

declared-by-no-end : (outside : Outside) (k : Sources) (t : Stacked) (n : ℕ) (x : Lexed) (o : Option Declaration) → NoEnd (declared_by outside k t n x o)
declared-by-no-end outside k t n x None = tt
declared-by-no-end outside k t n x (Some says) = unless-no-end _ _ refl

declared-no-end : (outside : Outside) (k : Sources) (t : Stacked) (n : ℕ) (x : Result Lexed Reason) → NoEnd (declared_lexed outside k t n x)
declared-no-end outside k t n (Err r) = tt
declared-no-end outside k t n (Ok x) = declared-by-no-end outside k t n x (declaration_at x.lexemes)

end-by-no-end : (outside : Outside) (s : State) (t : Stacked) (n : ℕ) (x : Result Lexed Reason) → NoEnd (end_by outside s t n x)
end-by-no-end outside s t n (Err r) = tt
end-by-no-end outside s t n (Ok x) = unless-no-end _ _ refl

-- BY THE TOKEN

pub content-no-end : (outside : Outside) (s : State) (t : Stacked) (m : Mode) (k : TokenKind) (own : List ℕ) → NoEnd (content_piece outside s t m k own)
unfolding content_piece
content-no-end outside s t m kind.Chars own = character-no-end s m (first_of own)
content-no-end outside s t m kind.Re own = separator-no-end s 13
content-no-end outside s t m kind.Rs own = separator-no-end s 10
content-no-end outside s t m (kind.ShortRef i) own = ok-no-end (length own) _ (mapped-no-end outside s t own (entity_of_string s.context.doctype (map_at s) i))
content-no-end outside s t m kind.StartTag own = refl
content-no-end outside s t m kind.EmptyStart own = ok-no-end (length own) _ (short-no-end (empty_start_type s.context s.ended))
content-no-end outside s t m kind.EndTag own = refl
content-no-end outside s t m kind.EmptyEnd own = ok-no-end (length own) _ (ending-no-end Short (empty_end_type s.context))
content-no-end outside s t m kind.Net own = ok-no-end (length own) _ (ending-no-end Net (net_type s.context))
content-no-end outside s t m kind.EntityRef own =
    ok-no-end (length own) _ (meaning-no-end (is_rcdata m) _)
content-no-end outside s t m (kind.CharRef b) own = refl
content-no-end outside s t m (kind.FunctionRef b) own = separator-no-end s b
content-no-end outside s t m kind.Pi own = refl
content-no-end outside s t m kind.Comment own = refl
content-no-end outside s t m kind.SectionStart own = section-no-end outside s.context.doctype t m false own
content-no-end outside s t m kind.SectionEnd own = section-end-no-end s (length own)
content-no-end outside s t m kind.Declaration own =
    if-no-end (has_keyword s.context.doctype.syntax.names (codes "SGML") own) _ _ tt
    (declared-piece-no-end outside s t own (lexed construct.Declaration outside s.context.doctype t own))
content-no-end outside s t m _ own = tt

pub before-no-end : (outside : Outside) (s : State) (t : Stacked) (k : TokenKind) (own : List ℕ) → NoEnd (piece_before outside s t k own)
unfolding piece_before
before-no-end outside s t kind.Separators own = refl
before-no-end outside s t kind.Pi own = refl
before-no-end outside s t kind.Comment own = refl
before-no-end outside s t kind.Declaration own =
    if-no-end (is_doctype s.context.doctype.syntax.names own) _ _
    (head-no-end outside (sources_in s) t (length own) (lexed construct.Declaration outside s.context.doctype t own)) tt
before-no-end outside s t _ own = tt

pub subset-no-end : (outside : Outside) (s : State) (t : Stacked) (m : Mode) (k : TokenKind) (own : List ℕ) → NoEnd (subset_piece outside s t m k own)
unfolding subset_piece
subset-no-end outside s t mode.Ign kind.Chars own = refl
subset-no-end outside s t m kind.Separators own = refl
subset-no-end outside s t m kind.Pi own = refl
subset-no-end outside s t m kind.Comment own = refl
subset-no-end outside s t m kind.ParameterRef own = ok-no-end (length own) _ (parameter-no-end outside (sources_in s) t _)
subset-no-end outside s t m kind.SectionStart own = section-no-end outside s.context.doctype t m true own
subset-no-end outside s t m kind.SectionEnd own = section-end-no-end s (length own)
subset-no-end outside s t m kind.Declaration own =
    if-no-end (has_keyword s.context.doctype.syntax.names (codes "SGML") own) _ _ tt
    (declared-no-end outside (sources_in s) t (length own) (lexed construct.Declaration outside s.context.doctype t own))
subset-no-end outside s t m kind.SubsetEnd own =
    if-no-end (in_document t.entities) _ _
    (end-by-no-end outside s t (length own) (lexed construct.SubsetEnd outside s.context.doctype t own)) tt
subset-no-end outside s t m _ own = tt
