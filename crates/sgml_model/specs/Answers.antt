-- What `read_group` refuses.
use Rattle.std.specs.Prelude.{◌≡◌, List, Some, None}
use Rattle.sgml_model.specs.Term.{Term}
use Rattle.sgml_model.specs.Group.{Sign, Spells, IsBadAt}
use Rattle.sgml_model.specs.Reading.{reading}
use Rattle.sgml_model.specs.Limits.{passed}
use Rattle.sgml_model.specs.declared.token.GroupLimits.{GroupLimits}
use Rattle.sgml_model.specs.declared.read.GroupError.{GroupError}
use Rattle.sgml_model.specs.declared.read.GroupError.TheVariants.{Memory, BadGroup, GroupLimit}

-- no group is spelled, and at is the first token where none goes on
abbrev pub IsRefusal : List Sign → GroupError → Type 0
IsRefusal tokens Memory = Unit {0}
IsRefusal tokens (BadGroup at) = IsBadAt tokens at × (reading tokens ≡ None)
IsRefusal tokens (GroupLimit which) = ⊥

-- a group is spelled that passes this limit first, or none is
abbrev pub Refuses : List Sign → GroupLimits → GroupError → Type 0
Refuses tokens limits Memory = Unit {0}
Refuses tokens limits (BadGroup at) = IsBadAt tokens at × (reading tokens ≡ None)
Refuses tokens limits (GroupLimit which) =
    (x : Term) × Spells tokens x × (reading tokens ≡ Some x) × (passed limits x ≡ Some which)
