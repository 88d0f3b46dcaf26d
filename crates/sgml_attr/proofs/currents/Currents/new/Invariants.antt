use Rattle.std.proofs.Common.{◌≡◌, [], replicate}
use Rattle.sgml_attr.proofs.currents.Currents.new.Given as goal

abbrev pub invariant-loop : goal.invariant-loop
invariant-loop l = l.made.items ≡ replicate l.counter []
