-- What the tables of `sgml_dtd` tell of a declaration is what is spelled there.
use Rattle.std.specs.Prelude.{◌≡◌, ℕ, ◌-◌, Some, None, List, Ok, Err}
use Rattle.sgml_scan.specs.text.declared.reason.Reason.{Reason}
use Rattle.sgml_theory_reading.specs.decl_lexemes.declared.lexeme.Lexeme.{Lexeme}
use Rattle.sgml_theory_reading.specs.decl_forms.declared.declaration.Declaration.{Declaration}
use Rattle.sgml_theory_reading.specs.decl_forms.Declarations.{declaration_at}
use Rattle.sgml_theory_reading.specs.dtd_elements.Errors.{IsFirst}
use Rattle.sgml_theory_reading.specs.dtd.Doctypes.{Doctype}
use Rattle.sgml_theory_reading.specs.dtd.Errors.{IsAfter, IsAdded, IsAgainst}
use Rattle.sgml_theory_reading.specs.dtd.Rows.{declared_reason, IsAmbiguousIn}
use Rattle.sgml_theory_reading.specs.Pieces.{Declare}
use Rattle.sgml_theory_reading.specs.Facets.{declares}
use Rattle.sgml_theory_reading.specs.Unread.{Outside, Sources, base_in}
use Rattle.sgml_theory_spelling.specs.Stacked.{Stacked}
use Rattle.sgml_theory_spelling.specs.Sized.{sized_spent}
use Rattle.sgml_theory_spelling.specs.Declared.{Lexed, reason_against}
use Rattle.sgml_theory_spelling.specs.Prolog.{declared_by}

-- against what is added there is no reason
abbrev pub AddedIsUnopposed : Type 0
AddedIsUnopposed = (base : List ℕ) (ds : List Lexeme) (d e : Doctype) (x : Declaration) → IsAfter base ds d e x → reason_against d ds x ≡ None

-- the first reason that is told is the one that is spelled
abbrev pub FirstIsAgainst : Type 0
FirstIsAgainst = (ds : List Lexeme) (d : Doctype) (x : Declaration) (r : Reason) → IsFirst r (declared_reason d ds x) (IsAmbiguousIn d x) → reason_against d ds x ≡ Some r

-- what is added is a piece, and the document type after it is the one that the tables then have
pub record IsAddedAs (outside : Outside) (k : Sources) (t : Stacked) (size : ℕ) (x : Lexed) (e : Doctype) : Type 0 where
  pub says : Declaration
  pub spelled : declared_by outside k t size x (declaration_at x.lexemes)
      ≡ Ok (sized_spent size (x.spent - t.spent) (Declare x.lexemes says (base_in outside k t.entities)))
  pub types : e ≡ declares (Declare x.lexemes says (base_in outside k t.entities)) k.doctype

abbrev pub AddedIsSpelled : Type 0
AddedIsSpelled =
    (outside : Outside) (k : Sources) (t : Stacked) (size : ℕ) (x : Lexed) (e : Doctype)
    → IsAdded (base_in outside k t.entities) x.lexemes k.doctype e (declaration_at x.lexemes) → IsAddedAs outside k t size x e

-- and what is refused is refused so
abbrev pub RefusedIsSpelled : Type 0
RefusedIsSpelled =
    (outside : Outside) (k : Sources) (t : Stacked) (size : ℕ) (x : Lexed) (r : Reason)
    → IsAgainst x.lexemes k.doctype r (declaration_at x.lexemes) → declared_by outside k t size x (declaration_at x.lexemes) ≡ Err r
