-- The SGML declaration in a file of its own (13; that separators alone stand around it, and the places of faults, are the profile's).
use Rattle.std.specs.Prelude.{◌≡◌, ◌⊎◌, ℕ, ◌+◌, [], drop, Result, Ok, Err, ⊤}
use Rattle.std.specs.List.{prefix_len}
use Rattle.sgml_text.specs.Characters.{is_separator}
use Rattle.sgml_text.specs.declared.reason.Reason.{Reason}
use Rattle.sgml_text.specs.declared.reason.Reason.TheVariants.{BadDeclaration}
use Rattle.sgml_syntax.specs.declared.syntax.Syntax.{Syntax}
use Rattle.sgml_declared.specs.theory_reading.Names.{Text}
use Rattle.sgml_declared.specs.theory_reading.Pieces.{Sgml}
use Rattle.sgml_declared.specs.theory_spelling.Sized.{sized}
use Rattle.sgml_declared.specs.theory_spelling.SgmlDeclared.{sgml_piece}
use Rattle.sgml_settings.specs.declared.declaration.FaultError.{FaultError}
use Rattle.sgml_settings.specs.declared.declaration.FaultError.TheVariants as error

-- how many separators stand at the front of a text, and what follows them
abbrev pub separators : Text → ℕ
separators text = prefix_len is_separator text

abbrev pub after_separators : Text → Text
after_separators text = drop (separators text) text

-- behind them the text has the SGML declaration of this syntax, of so many bytes, as a document has it
abbrev pub HasDeclaration : Text → Syntax → ℕ → Type 0
HasDeclaration text syntax size = sgml_piece (after_separators text) ≡ Ok (sized size (Sgml syntax))

-- what follows a declaration of so many bytes
abbrev pub behind : Text → ℕ → Text
behind text size = drop size (after_separators text)

-- THE TEXT IS ONE SGML DECLARATION, with separators alone before it and after it
pub record Declares (text : Text) (syntax : Syntax) : Type 0 where
  pub size : ℕ
  pub has : HasDeclaration text syntax size
  pub alone : after_separators (behind text size) ≡ []

-- or something else follows it, whose first byte has this offset
pub record IsFollowed (text : Text) (at : ℕ) : Type 0 where
  pub syntax : Syntax
  pub size : ℕ
  pub has : HasDeclaration text syntax size
  pub other : after_separators (behind text size) ≡ [] → ⊥
  pub at_other : at ≡ separators text + size + separators (behind text size)

-- THE TEXT IS NONE, from this offset on, for this reason: where a declaration is to begin there is none that can be read, or something
-- else follows it
abbrev pub IsNoDeclaration : Text → ℕ → Reason → Type 0
IsNoDeclaration text at why =
    ((at ≡ separators text) × (sgml_piece (after_separators text) ≡ Err why)) ⊎ (IsFollowed text at × (why ≡ BadDeclaration))

abbrev pub IsDeclarationRead : Text → Result Syntax FaultError → Type 0
IsDeclarationRead text (Ok syntax) = Declares text syntax
IsDeclarationRead text (Err (error.At at why)) = IsNoDeclaration text at why
IsDeclarationRead text (Err error.Memory) = ⊤
