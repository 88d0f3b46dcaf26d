use Rattle.std.proofs.Common.{◌≤◌, ◌<◌, ◌-◌, ℕ}
use Rattle.sgml_parse.specs.declared.answer.Wanted.{Wanted}
use Rattle.sgml_parse.specs.Parsing.{IsUnsuppliedIn}
use Rattle.sgml_parse.proofs.wanting.first_unsupplied.Given as goal

abbrev pub invariant-entities : goal.invariant-entities
invariant-entities l = record {
  declared : 2 ≤ l.number;
  low : l.from ≤ l.number;
  none : (v : Wanted) → l.from ≤ v.entity → v.entity < l.number → IsUnsuppliedIn l.options l.kept l.texts l.missing v → ⊥;
}

abbrev pub decreases-entities : goal.decreases-entities
decreases-entities l = l.end - l.number
