use Rattle.std.proofs.Common.{arith, sym, ap, ◌∙◌}
use Rattle.sgml_idents.proofs.Growing.{added_here}
use Rattle.sgml_idents.proofs.starts.add_ids.Goals as goal

pub loop-i-preserved : goal.loop-i-preserved
loop-i-preserved c = λ q. added_here c.args.definitions.now c.args.values.now c.loop-i.i _ _ _ _ _ q _ (omega (arith, c.loop-i-test.true, c.defined_values-i-end.ensures.definitions)) (omega (arith, c.loop-i-test.true, c.defined_values-i-end.ensures.values)) c.index-definitions-i.is c.index-values-i.is c.ids.ensures (c.in_ok-add_names.ensures q) (c.loop-i.invariant q)
