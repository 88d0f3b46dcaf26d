use Rattle.std.proofs.Common.{arith, sym, ap, ◌∙◌}
use Rattle.sgml_idents.proofs.Growing.{referred_here}
use Rattle.sgml_idents.proofs.starts.add_references.Goals as goal

pub loop-i-preserved : goal.loop-i-preserved
loop-i-preserved c = referred_here c.args.definitions.now c.args.values.now c.loop-i.i _ _ c.args.place _ _ _ _ (omega (arith, c.loop-i-test.true, c.defined_values-i-end.ensures.definitions)) (omega (arith, c.loop-i-test.true, c.defined_values-i-end.ensures.values)) c.index-definitions-i.is c.index-values-i.is c.references.ensures c.in_ok-add_idrefs.ensures c.loop-i.invariant
