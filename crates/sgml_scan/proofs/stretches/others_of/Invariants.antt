use Rattle.std.proofs.Common.{ℕ, ◌<◌, slice_index_or}
use Rattle.sgml_scan.specs.Sure.{Sure}
use Rattle.sgml_scan.proofs.stretches.others_of.Given as goal

abbrev pub invariant-loop-i : goal.invariant-loop-i
invariant-loop-i l = (i : ℕ) → i < l.i → Sure l.state l.run (slice_index_or l.text i 0)
