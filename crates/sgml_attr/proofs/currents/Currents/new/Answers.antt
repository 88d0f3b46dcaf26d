use Rattle.std.proofs.Common.{subst, sym}
use Rattle.sgml_attr.specs.Currents.{AllEndInValue}
use Rattle.sgml_attr.proofs.Placing.{replicate-ends}
use Rattle.sgml_attr.proofs.currents.Currents.new.Goals as goal

pub invariant_of-result : goal.invariant_of-result
invariant_of-result c = subst AllEndInValue (sym c.loop.invariant) (replicate-ends c.loop.counter)
