-- Which reason of several is told, and what an error tells.
use Rattle.std.specs.Prelude.{◌≡◌, Bool, true, false, List, [], ◌∷◌, ◌++◌, Option, Some, None, if◌then◌else◌}
use Rattle.std.specs.List.{list_any}
use Rattle.sgml_text.specs.declared.reason.Reason.{Reason}
use Rattle.sgml_text.specs.declared.error.RefusalError.{RefusalError}
use Rattle.sgml_text.specs.declared.error.RefusalError.TheVariants.{Refused, Memory}

-- Of a table of reasons, each with whether it holds, the first that holds.
abbrev pub first_row : {R : Type 0} → List (Bool × R) → Option R
first_row [] = None
first_row (row ∷ rows) = if row.0 then Some row.1 else first_row rows

-- a reason is the first that holds: it holds, and no reason before it does
pub record IsFirstRow {R : Type 0} (rows : List (Bool × R)) (reason : R) : Type 0 where
  pub before : List (Bool × R)
  pub after : List (Bool × R)
  pub are : rows ≡ before ++ ((true, reason) ∷ after)
  pub none_before : list_any (λ row. row.0) before ≡ false

-- it is this reason, unless no memory was there
abbrev pub IsRefusal : Option Reason → RefusalError → Type 0
IsRefusal reason (Refused r) = reason ≡ Some r
IsRefusal reason Memory = Unit {0}
