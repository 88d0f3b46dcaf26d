-- The numbers of attributes, by specifications in place of by definitions.
use Rattle.std.specs.Prelude.{◌≡◌, ◌==◌, ◌<◌, ◌≤◌, if◌then◌else◌, ℕ, List, length, Option, Some, None, slice_get, IfSome}
use Rattle.sgml_text.specs.declared.reason.Reason.TheVariants as reason
use Rattle.sgml_starts.specs.declared.error.StartError.{StartError}
use Rattle.sgml_starts.specs.declared.error.StartError.TheVariants as error
use Rattle.sgml_starts.specs.declared.matching.Numbers.{Numbers}

-- a specification has the number of the attribute that is matched with it
pub record AreInverted (n : ℕ) (matched named : List (Option ℕ)) : Type 0 where
  pub as_many : length named ≡ n
  pub each : (i j : ℕ) → slice_get named j ≡ Some (Some i) → slice_get matched i ≡ Some (Some j)

-- those that are told are those that the first specifications name, of n attributes
pub record AreNamed (n : ℕ) (all named : List (Option ℕ)) : Type 0 where
  pub few : length named ≤ length all
  pub each : (i j : ℕ) → slice_get named j ≡ Some (Some i) → slice_get all j ≡ Some (Some i)
  pub within : (i j : ℕ) → slice_get named j ≡ Some (Some i) → i < n

pub record AreNumbers (n : ℕ) (all : List (Option ℕ)) (told : Numbers) : Type 0 where
  pub named : AreNamed n all told.named.items
  pub unknown : IfSome told.unknown (λ j. slice_get all j ≡ Some None)

-- why a specification without a number is refused
abbrev pub unnamed : Option ℕ → ℕ → StartError
unnamed None j = error.Memory
unnamed (Some k) j = if k == j then error.Refused reason.UnknownAttribute else error.Memory
