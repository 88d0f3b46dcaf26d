use Rattle.std.proofs.Common.{◌≡◌, take}
use Rattle.sgml_attr.proofs.currents.Currents.copy.Given as goal

abbrev pub invariant-loop-entries : goal.invariant-loop-entries
invariant-loop-entries l = l.lists.items ≡ take l.entries-index l.entries-items
