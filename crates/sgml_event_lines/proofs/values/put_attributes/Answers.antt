use Rattle.std.proofs.Common.{arith}
use Rattle.sgml_event_lines.proofs.Placing.{attribute_put}
use Rattle.sgml_event_lines.proofs.values.put_attributes.Goals as goal

pub loop-i-preserved : goal.loop-i-preserved
loop-i-preserved g c =
    attribute_put c.args.dtd.now c.args.definitions.now c.args.values.now c.loop-i.i c.index-definitions-i.result c.index-values-i.result _ _ _ _ _ _ _ _ _ _
    (omega (arith, c.loop-i-test.true, c.defined_values-i-end.ensures.definitions)) (omega (arith, c.loop-i-test.true, c.defined_values-i-end.ensures.values))
    c.index-definitions-i.is c.index-values-i.is c.loop-i.invariant (rw (← c.index-definitions-i.is) at c.put_attribute.ensures)
