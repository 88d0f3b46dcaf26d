-- What a refusal of the table says.
use Rattle.std.specs.Prelude.{◌≡◌, Option, Some, None, List}
use Rattle.sgml_text.specs.declared.reason.Reason.{Reason}
use Rattle.sgml_text.specs.declared.reason.Reason.TheVariants.{Ambiguous}
use Rattle.sgml_text.specs.declared.error.RefusalError.{RefusalError}
use Rattle.sgml_text.specs.declared.error.RefusalError.TheVariants.{Refused, Memory}
use Rattle.sgml_model.specs.Term.{Term}
use Rattle.sgml_dtd_elements.specs.Rows.{IsAmbiguousModel, IsAmbiguousContent, first_reason}
use Rattle.sgml_syntax.specs.declared.syntax.Syntax.{Syntax}
use Rattle.sgml_decl_forms.specs.declared.element.ElementDeclaration.{ElementDeclaration}
use Rattle.sgml_dtd_elements.specs.Folded.{folded}

-- the reason is this one, and where there is none, it is `Ambiguous` for what it needs
abbrev pub IsFirst : Reason → Option Reason → Type 0 → Type 0
IsFirst r (Some first) ambiguous = r ≡ first
IsFirst r None ambiguous = (r ≡ Ambiguous) × ambiguous

-- it is the first reason that holds, ambiguity the last, unless no memory was there
abbrev pub IsFirstRefusal : Option Reason → Type 0 → RefusalError → Type 0
IsFirstRefusal first ambiguous (Refused r) = IsFirst r first ambiguous
IsFirstRefusal first ambiguous Memory = Unit {0}

-- the model is ambiguous, unless no memory was there
abbrev pub IsAmbiguity : Term → RefusalError → Type 0
IsAmbiguity x (Refused r) = (r ≡ Ambiguous) × IsAmbiguousModel x
IsAmbiguity x Memory = Unit {0}

-- THE DECLARATION IS REFUSED for its first reason
abbrev pub IsRefusedFirst : Syntax → List ElementDeclaration → ElementDeclaration → RefusalError → Type 0
IsRefusedFirst syntax ds d error = IsFirstRefusal (first_reason syntax ds d) (IsAmbiguousContent (folded syntax d).body.content) error
