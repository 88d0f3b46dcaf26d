use Rattle.std.proofs.Common.{◌≡◌, drop}
use Rattle.sgml_sgmldecl.specs.Machine.{run, state_of, begin_state}
use Rattle.sgml_sgmldecl.proofs.reading.read.Given as goal

abbrev pub invariant-loop-i : goal.invariant-loop-i
invariant-loop-i l = run l.i (state_of l.reading) (drop l.i l.text) ≡ run 0 begin_state l.text
