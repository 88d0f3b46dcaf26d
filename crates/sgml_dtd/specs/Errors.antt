-- What is answered to a declaration.
use Rattle.std.specs.Prelude.{◌≡◌, ℕ, List, Option, Some, None}
use Rattle.sgml_text.specs.declared.reason.Reason.{Reason}
use Rattle.sgml_text.specs.declared.reason.Reason.TheVariants.{DeclarationSyntax}
use Rattle.sgml_text.specs.declared.error.RefusalError.{RefusalError}
use Rattle.sgml_text.specs.declared.error.RefusalError.TheVariants.{Refused, Memory}
use Rattle.sgml_dtd_elements.specs.sgml_decl_forms.declared.declaration.Declaration.{Declaration}
use Rattle.sgml_dtd_elements.specs.sgml_decl_lexemes.declared.lexeme.Lexeme.{Lexeme}
use Rattle.sgml_dtd_elements.specs.Errors.{IsFirst}
use Rattle.sgml_dtd.specs.Doctypes.{Doctype, with_declared}
use Rattle.sgml_dtd.specs.Rows.{declared_reason, IsAmbiguousIn, IsUnambiguousIn}

-- the declaration holds against no reason, and this is the document type after it
pub record IsAfter (base : List ℕ) (ds : List Lexeme) (t u : Doctype) (d : Declaration) : Type 0 where
  pub none : declared_reason t ds d ≡ None
  pub unambiguous : IsUnambiguousIn t d
  pub is : u ≡ with_declared base t d

-- the lexemes are of a form, and what they declare is added
abbrev pub IsAdded : List ℕ → List Lexeme → Doctype → Doctype → Option Declaration → Type 0
IsAdded base ds t u None = ⊥
IsAdded base ds t u (Some d) = IsAfter base ds t u d

-- the lexemes are of no form (clause 11), or this is the first reason against what they declare
abbrev pub IsAgainst : List Lexeme → Doctype → Reason → Option Declaration → Type 0
IsAgainst ds t r None = r ≡ DeclarationSyntax
IsAgainst ds t r (Some d) = IsFirst r (declared_reason t ds d) (IsAmbiguousIn t d)

-- it is the first reason, unless no memory was there
abbrev pub IsRefusalOf : List Lexeme → Doctype → Option Declaration → RefusalError → Type 0
IsRefusalOf ds t said (Refused r) = IsAgainst ds t r said
IsRefusalOf ds t said Memory = Unit {0}

-- it is this reason
abbrev pub IsEnd : Option Reason → RefusalError → Type 0
IsEnd reason (Refused r) = reason ≡ Some r
IsEnd reason Memory = ⊥
