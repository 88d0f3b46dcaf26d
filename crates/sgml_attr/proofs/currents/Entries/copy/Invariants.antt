use Rattle.std.proofs.Common.{◌≡◌, take}
use Rattle.sgml_attr.proofs.currents.Entries.copy.Given as goal

abbrev pub invariant-loop-entry : goal.invariant-loop-entry
invariant-loop-entry l = l.values.items ≡ take l.entry-index l.entry-items
