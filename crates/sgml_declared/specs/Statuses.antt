-- Which status the lexemes of a section start tell (10.4.2).
use Rattle.std.specs.Prelude.{◌≡◌, ℕ, Bool, false, ◌&&◌, ◌||◌, not, List, [], ◌∷◌, ◌++◌, Result, Ok, Err}
use Rattle.sgml_syntax.specs.declared.syntax.Syntax.{Syntax}
use Rattle.sgml_text.specs.declared.error.RefusalError.{RefusalError}
use Rattle.sgml_text.specs.declared.error.RefusalError.TheVariants.{Refused, Memory}
use Rattle.sgml_names.specs.Naming.{is_long}
use Rattle.sgml_marked.specs.declared.status.Status.{Status}
use Rattle.sgml_marked.specs.Keywords.{is_keyword, status_by}
use Rattle.sgml_decl_lexemes.specs.declared.lexeme.Lexeme.{Lexeme}
use Rattle.sgml_decl_lexemes.specs.declared.lexeme.Lexeme.TheVariants.{Name, Token}
use Rattle.sgml_theory_standing.specs.theory_reading.Names.{Text}
use Rattle.sgml_theory_standing.specs.theory_reading.Pieces.{SectionStart}
use Rattle.sgml_theory_standing.specs.theory_spelling.Sized.{sized_spent}
use Rattle.sgml_theory_standing.specs.theory_spelling.Content.{keywords_in, section_of}

-- a word that is no status keyword passes NAMELEN
abbrev pub is_long_status : Syntax → List ℕ → Bool
is_long_status syntax word = not (is_keyword word) && is_long syntax word

-- one does up to the first lexeme that is no name
abbrev pub has_long_status : Syntax → List Lexeme → Bool
has_long_status syntax [] = false
has_long_status syntax (Name n ∷ ds) = is_long_status syntax n || has_long_status syntax ds
has_long_status syntax (Token t ∷ ds) = is_long_status syntax t
has_long_status syntax (d ∷ ds) = false

-- the status is that of a section start of so many bytes with these lexemes, or this is why it has none
abbrev pub TellsStatus : Syntax → List Lexeme → Bool → Result Status RefusalError → Type 0
TellsStatus syntax ds in_type (Ok st) =
    (n spent : ℕ) → section_of syntax ds in_type n spent (status_by (keywords_in ds)) ≡ Ok (sized_spent n spent (SectionStart st))
TellsStatus syntax ds in_type (Err (Refused r)) = (n spent : ℕ) → section_of syntax ds in_type n spent (status_by (keywords_in ds)) ≡ Err r
TellsStatus syntax ds in_type (Err Memory) = Unit {0}

-- the names among the lexemes are told one after another
abbrev pub AddsKeyword : List Text → List Text → Lexeme → Type 0
AddsKeyword old new d = (rest : List Lexeme) → new ++ keywords_in rest ≡ old ++ keywords_in (d ∷ rest)
