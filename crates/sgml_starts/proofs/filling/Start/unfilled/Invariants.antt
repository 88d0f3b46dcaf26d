use Rattle.std.proofs.Common.{◌≤◌, ◌-◌, length}
use Rattle.sgml_starts.proofs.filling.Start.unfilled.Given as goal

abbrev pub invariant-values : goal.invariant-values
invariant-values l = length l.values.items ≤ length l.self.definitions

abbrev pub decreases-values : goal.decreases-values
decreases-values l = length l.self.definitions - length l.values.items
