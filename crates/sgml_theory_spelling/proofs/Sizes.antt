-- A piece takes its token's own bytes.
use Rattle.std.proofs.Common.{◌≡◌, ℕ, Bool, true, false, List, Option, None, Some, Result, Ok, Err, length, refl, codes, ◌-◌, if◌then◌else◌, ◌&&◌}
use Rattle.sgml_scan.specs.text.declared.reason.Reason.{Reason}
use Rattle.sgml_scan.specs.delim.declared.delim.Mode.{Mode}
use Rattle.sgml_scan.specs.delim.declared.delim.Mode.TheVariants as mode
use Rattle.sgml_scan.specs.markup.declared.kinds.TokenKind.{TokenKind}
use Rattle.sgml_scan.specs.markup.declared.kinds.TokenKind.TheVariants as kind
use Rattle.sgml_theory_reading.specs.marked.declared.status.Status.{Status}
use Rattle.sgml_scan.specs.syntax.declared.syntax.Syntax.{Syntax}
use Rattle.sgml_theory_reading.specs.decl_lexemes.declared.lexeme.Lexeme.{Lexeme}
use Rattle.sgml_theory_reading.specs.marked.Keywords.{status_by}
use Rattle.sgml_theory_reading.specs.decl_parts.declared.ends.Construct.TheVariants as construct
use Rattle.sgml_theory_reading.specs.decl_forms.declared.declaration.Declaration.{Declaration}
use Rattle.sgml_theory_reading.specs.decl_forms.declared.declaration.Declaration.TheVariants as form
use Rattle.sgml_theory_reading.specs.decl_forms.Declarations.{declaration_at}
use Rattle.sgml_theory_reading.specs.decl_parts.Ends.{is_doctype}
use Rattle.sgml_theory_reading.specs.dtd.Doctypes.{Doctype}
use Rattle.sgml_theory_reading.specs.Pieces.{Piece, Kind}
use Rattle.sgml_theory_reading.specs.Unread.{Outside, Sources}
use Rattle.sgml_theory_reading.specs.State.{State, sources_in}
use Rattle.sgml_theory_spelling.specs.Stacked.{Stacked}
use Rattle.sgml_theory_spelling.specs.Sized.{sized_ok, spent_ok, unless_reason}
use Rattle.sgml_theory_spelling.specs.Places.{in_section}
use Rattle.sgml_theory_spelling.specs.Declared.{Lexed, lexed}
use Rattle.sgml_theory_spelling.specs.Content.{section_of, section_by, section_start, section_piece, section_end, declared_piece, declared_kind, is_data_status, keywords_in, content_piece}
use Rattle.sgml_theory_spelling.specs.SgmlDeclared.{has_keyword}
use Rattle.sgml_theory_spelling.specs.Prolog.{head_by, head_lexed, piece_before, declared_by, declared_lexed, end_by, in_document, subset_piece}

abbrev pub HasSize : ℕ → Result Piece Reason → Type 0
HasSize n (Ok p) = p.size ≡ n
HasSize n (Err r) = Unit {0}

spent-size : (n spent : ℕ) (x : Result Kind Reason) → HasSize n (spent_ok n spent x)
spent-size n spent (Ok k) = refl
spent-size n spent (Err r) = tt

ok-size : (n : ℕ) (x : Result Kind Reason) → HasSize n (sized_ok n x)
ok-size n x = spent-size n 0 x

if-size : (n : ℕ) (t : Bool) (x y : Result Piece Reason) → HasSize n x → HasSize n y → HasSize n (if t then x else y)
if-size n true x y p q = p
if-size n false x y p q = q

pub unless-size : (n : ℕ) (o : Option Reason) (p : Piece) → p.size ≡ n → HasSize n (unless_reason o p)
unless-size n (Some r) p e = tt
unless-size n None p e = e

section-of-size : (syntax : Syntax) (xs : List Lexeme) (t : Bool) (n spent : ℕ) (x : Result Status ℕ) → HasSize n (section_of syntax xs t n spent x)
section-of-size syntax xs t n spent (Err i) = tt
section-of-size syntax xs t n spent (Ok st) = if-size n (t && is_data_status st) _ _ tt refl

section-by-size : (syntax : Syntax) (t : Stacked) (b : Bool) (n : ℕ) (x : Result Lexed Reason) → HasSize n (section_by syntax t b n x)
section-by-size syntax t b n (Err r) = tt
section-by-size syntax t b n (Ok x) = section-of-size syntax x.lexemes b n (x.spent - t.spent) (status_by (keywords_in x.lexemes))

section-start-size : (outside : Outside) (d : Doctype) (t : Stacked) (b : Bool) (own : List ℕ) → HasSize (length own) (section_start outside d t b own)
unfolding section_start
section-start-size outside d t b own = section-by-size d.syntax t b (length own) (lexed construct.SectionStart outside d t own)

section-size : (outside : Outside) (d : Doctype) (t : Stacked) (m : Mode) (b : Bool) (own : List ℕ) → HasSize (length own) (section_piece outside d t m b own)
section-size outside d t mode.Ign b own = refl
section-size outside d t _ b own = section-start-size outside d t b own

section-end-size : (s : State) (n : ℕ) → HasSize n (section_end s n)
section-end-size s n = if-size n (in_section s.texts s.sections) _ _ refl tt

lexed-size : (outside : Outside) (s : State) (t : Stacked) (own : List ℕ) (x : Result Lexed Reason) → HasSize (length own) (declared_piece outside s t own x)
lexed-size outside s t own (Err r) = tt
lexed-size outside s t own (Ok x) = spent-size (length own) (x.spent - t.spent) (declared_kind s (declaration_at x.lexemes))

pub content-size : (outside : Outside) (s : State) (t : Stacked) (m : Mode) (k : TokenKind) (own : List ℕ) → HasSize (length own) (content_piece outside s t m k own)
unfolding content_piece
content-size outside s t m kind.Chars own = refl
content-size outside s t m kind.Re own = refl
content-size outside s t m kind.Rs own = refl
content-size outside s t m (kind.ShortRef i) own = ok-size (length own) _
content-size outside s t m kind.StartTag own = refl
content-size outside s t m kind.EmptyStart own = ok-size (length own) _
content-size outside s t m kind.EndTag own = refl
content-size outside s t m kind.EmptyEnd own = ok-size (length own) _
content-size outside s t m kind.Net own = ok-size (length own) _
content-size outside s t m kind.EntityRef own = ok-size (length own) _
content-size outside s t m (kind.CharRef b) own = refl
content-size outside s t m (kind.FunctionRef b) own = refl
content-size outside s t m kind.Pi own = refl
content-size outside s t m kind.Comment own = refl
content-size outside s t m kind.SectionStart own = section-size outside s.context.doctype t m false own
content-size outside s t m kind.SectionEnd own = section-end-size s (length own)
content-size outside s t m kind.Declaration own =
    if-size (length own) (has_keyword s.context.doctype.syntax.names (codes "SGML") own) _ _ tt
    (lexed-size outside s t own (lexed construct.Declaration outside s.context.doctype t own))
content-size outside s t m _ own = tt

head-by-size : (outside : Outside) (k : Sources) (t : Stacked) (n : ℕ) (x : Lexed) (o : Option Declaration) → HasSize n (head_by outside k t n x o)
head-by-size outside k t n x (Some (form.Doctype h)) = unless-size n _ _ refl
head-by-size outside k t n x _ = tt

head-size : (outside : Outside) (k : Sources) (t : Stacked) (n : ℕ) (x : Result Lexed Reason) → HasSize n (head_lexed outside k t n x)
head-size outside k t n (Err r) = tt
head-size outside k t n (Ok x) = head-by-size outside k t n x (declaration_at x.lexemes)

pub before-size : (outside : Outside) (s : State) (t : Stacked) (k : TokenKind) (own : List ℕ) → HasSize (length own) (piece_before outside s t k own)
unfolding piece_before
before-size outside s t kind.Separators own = refl
before-size outside s t kind.Pi own = refl
before-size outside s t kind.Comment own = refl
before-size outside s t kind.Declaration own =
    if-size (length own) (is_doctype s.context.doctype.syntax.names own) _ _
    (head-size outside (sources_in s) t (length own) (lexed construct.Declaration outside s.context.doctype t own)) tt
before-size outside s t _ own = tt

declared-by-size : (outside : Outside) (k : Sources) (t : Stacked) (n : ℕ) (x : Lexed) (o : Option Declaration) → HasSize n (declared_by outside k t n x o)
declared-by-size outside k t n x None = tt
declared-by-size outside k t n x (Some says) = unless-size n _ _ refl

declared-size : (outside : Outside) (k : Sources) (t : Stacked) (n : ℕ) (x : Result Lexed Reason) → HasSize n (declared_lexed outside k t n x)
declared-size outside k t n (Err r) = tt
declared-size outside k t n (Ok x) = declared-by-size outside k t n x (declaration_at x.lexemes)

end-by-size : (outside : Outside) (s : State) (t : Stacked) (n : ℕ) (x : Result Lexed Reason) → HasSize n (end_by outside s t n x)
end-by-size outside s t n (Err f) = tt
end-by-size outside s t n (Ok u) = unless-size n _ _ refl

pub subset-size : (outside : Outside) (s : State) (t : Stacked) (m : Mode) (k : TokenKind) (own : List ℕ) → HasSize (length own) (subset_piece outside s t m k own)
unfolding subset_piece
subset-size outside s t mode.Ign kind.Chars own = refl
subset-size outside s t m kind.Separators own = refl
subset-size outside s t m kind.Pi own = refl
subset-size outside s t m kind.Comment own = refl
subset-size outside s t m kind.ParameterRef own = ok-size (length own) _
subset-size outside s t m kind.SectionStart own = section-size outside s.context.doctype t m true own
subset-size outside s t m kind.SectionEnd own = section-end-size s (length own)
subset-size outside s t m kind.Declaration own =
    if-size (length own) (has_keyword s.context.doctype.syntax.names (codes "SGML") own) _ _ tt
    (declared-size outside (sources_in s) t (length own) (lexed construct.Declaration outside s.context.doctype t own))
subset-size outside s t m kind.SubsetEnd own =
    if-size (length own) (in_document t.entities) _ _
    (end-by-size outside s t (length own) (lexed construct.SubsetEnd outside s.context.doctype t own)) tt
subset-size outside s t m _ own = tt
