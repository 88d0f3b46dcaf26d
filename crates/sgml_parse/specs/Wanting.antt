-- The first text that wasn't supplied.
use Rattle.std.specs.Prelude.{◌≡◌, ◌<◌, ◌≤◌, ℕ, List, Option, Some, None}
use Rattle.sgml_text.specs.declared.reason.Reason.{Reason}
use Rattle.sgml_declared.specs.theory_reading.Names.{Name, Text}
use Rattle.sgml_declared.specs.theory_standing.Kept.{Kept}
use Rattle.sgml_declared.specs.Files.{Choices}
use Rattle.sgml_parse.specs.declared.answer.Wanted.{Wanted}
use Rattle.sgml_parse.specs.Parsing.{Parser, IsUnsupplied, IsUnsuppliedIn}

-- OF THOSE from this number on the first, or there is none
abbrev pub IsFirst : (Wanted → Type 0) → ℕ → Option Wanted → Type 0
IsFirst Among from None = (v : Wanted) → from ≤ v.entity → Among v → ⊥
IsFirst Among from (Some w) = (from ≤ w.entity) × Among w × ((v : Wanted) → from ≤ v.entity → v.entity < w.entity → Among v → ⊥)

-- THE FIRST TEXT that wasn't supplied, in order of declaration
abbrev pub IsFirstUnsupplied : ℕ → Parser → Option Wanted → Type 0
IsFirstUnsupplied from p found = IsFirst (IsUnsupplied p) from found

-- by what is kept
abbrev pub IsFirstUnsuppliedIn : Choices → Kept → List (ℕ × Text) → List (ℕ × Reason) → ℕ → Option Wanted → Type 0
IsFirstUnsuppliedIn c k texts missing from found = IsFirst (IsUnsuppliedIn c k texts missing) from found

-- the file of one entity, where it wasn't supplied
abbrev pub IsUnsuppliedFile : Choices → Kept → List (ℕ × Text) → List (ℕ × Reason) → ℕ → Option Name → Type 0
IsUnsuppliedFile c k texts missing number (Some name) = IsUnsuppliedIn c k texts missing (record { entity = number; name = name })
IsUnsuppliedFile c k texts missing number None = (v : Wanted) → v.entity ≡ number → IsUnsuppliedIn c k texts missing v → ⊥
