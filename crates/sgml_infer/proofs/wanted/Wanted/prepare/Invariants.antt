use Rattle.std.proofs.Common.{◌≡◌}
use Rattle.sgml_infer.proofs.wanted.Wanted.prepare.Given as goal

abbrev pub invariant-loop-element : goal.invariant-loop-element
invariant-loop-element l = l.dtd ≡ l.fn.dtd
