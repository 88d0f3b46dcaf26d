-- What the reading of a tag tells, by what it specifies.
use Rattle.std.specs.Prelude.{◌≡◌, ◌≢◌, ℕ, List, [], ◌∷◌, ◌++◌, length, Option, Some, None, Result, Ok, Err}
use Rattle.sgml_text.specs.declared.unit.Unit.{Unit as AnyUnit}
use Rattle.sgml_entity.specs.Stack.{Stack, moved_to}
use Rattle.sgml_decl_lexemes.specs.declared.lexeme.Lexeme.{Lexeme}
use Rattle.sgml_decl_lexemes.specs.declared.lexeme.Lexeme.TheVariants.{Value}
use Rattle.sgml_decl_lexemes.specs.declared.fault.LexError.{LexError}
use Rattle.sgml_attr.specs.declared.definition.Spec.{Spec}
use Rattle.sgml_starts.specs.declared.error.StartError.{StartError}
use Rattle.sgml_starts.specs.declared.error.StartError.TheVariants as error
use Rattle.sgml_starts.specs.declared.reading.Read.{Read}
use Rattle.sgml_starts.specs.Specified.{Specified, error_of}

-- the answer is these units, and the stack then stands so
abbrev pub IsLiteral : Result (List Lexeme) LexError × Stack → List AnyUnit → Stack → Type 0
IsLiteral answer units after = answer ≡ (Ok (Value units ∷ []), after)

-- the answer is this error, unless there was no memory
abbrev pub AnswersSo : Result (List Lexeme) LexError → StartError → Type 0
AnswersSo (Ok ds) e = ⊥
AnswersSo (Err l) e = error_of l ≡ e

abbrev pub IsNoLiteral : Result (List Lexeme) LexError × Stack → StartError → Type 0
IsNoLiteral answer error.Memory = Unit {0}
IsNoLiteral answer e = AnswersSo answer.0 e

-- the same text is open at the top, at any place of it
pub record StandsAlike (s t : Stack) : Type 0 where
  pub levels : t.levels ≡ s.levels
  pub expand : t.expand ≡ s.expand
  pub places : (x : ℕ) → moved_to x t.places ≡ moved_to x s.places

pub record IsRead (all : Specified) (read : Read) (after : Stack) : Type 0 where
  pub specs : read.specs.items ≡ all.specs
  pub stop : read.stop ≡ all.stop
  pub spent : read.stop ≡ None → after.spent ≡ all.spent

-- these specifications were read, and then this stopped it, which is no want of memory
pub record IsStopped (specs : List Spec) (e : StartError) (read : Read) : Type 0 where
  pub told : e ≢ error.Memory
  pub before : read.specs.items ≡ specs
  pub stop : read.stop ≡ Some e
