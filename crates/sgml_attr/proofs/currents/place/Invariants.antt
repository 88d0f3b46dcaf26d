use Rattle.std.proofs.Common.{◌≡◌, ◌≤◌, ◌<◌, ◌-◌, length, vec_capacity}
use Rattle.sgml_attr.specs.Currents.{placed}
use Rattle.sgml_attr.proofs.currents.place.Given as goal

abbrev pub invariant-gaps : goal.invariant-gaps
invariant-gaps l = record {
  within : length l.values.items ≤ l.at;
  room : l.at < vec_capacity l.values;
  same : placed l.values.items l.at l.value ≡ placed l.initial.values.items l.at l.value;
}

abbrev pub decreases-gaps : goal.decreases-gaps
decreases-gaps l = l.at - length l.values.items
