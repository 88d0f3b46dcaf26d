-- What the two readings of a group know of it.
use Rattle.std.specs.Prelude.{◌≡◌, ℕ, ◌^◌, ◌<◌, List, Some}
use Rattle.sgml_model.specs.Term.{Term}
use Rattle.sgml_model.specs.Group.{Sign}
use Rattle.sgml_model.specs.Limits.{widest, total, level}
use Rattle.sgml_model.specs.Reading.{State, start, run, whole}

-- the tokens are read, and x is the group
abbrev pub IsReadAs : List Sign → Term → Type 0
IsReadAs tokens x = (s : State) × (run start tokens ≡ Some s) × (whole s ≡ Some x)

-- the tokens are read, and the group is so large
abbrev pub AreSizes : List Sign → ℕ → ℕ → ℕ → Type 0
AreSizes tokens w t l = (x : Term) × IsReadAs tokens x × (widest x ≡ w) × (total x ≡ t) × (level x ≡ l)

-- the tokens are read, and there are numbers for all of them
abbrev pub IsBuildable : List Sign → Type 0
IsBuildable tokens = (x : Term) × IsReadAs tokens x × (total x < 2 ^ 32)
