use Rattle.std.proofs.Common.{arith, sym, ap, ◌∙◌}
use Rattle.sgml_idents.proofs.Growing.{found_here, passed_here}
use Rattle.sgml_idents.proofs.starts.has_repeated.Goals as goal

pub returns-then-any_found : goal.returns-then-any_found
returns-then-any_found c = found_here c.args.definitions.now c.args.values.now c.loop-i.i _ _ c.args.table.now _ _ _ (omega (arith, c.loop-i-test.true, c.defined_values-i-end.ensures.definitions)) (omega (arith, c.loop-i-test.true, c.defined_values-i-end.ensures.values)) c.index-definitions-i.is c.index-values-i.is c.ids.ensures c.any_found.ensures c.if-any_found.true c.loop-i.invariant

pub loop-i-preserved : goal.loop-i-preserved
loop-i-preserved c = passed_here c.args.definitions.now c.args.values.now c.loop-i.i _ _ c.args.table.now _ _ _ (omega (arith, c.loop-i-test.true, c.defined_values-i-end.ensures.definitions)) (omega (arith, c.loop-i-test.true, c.defined_values-i-end.ensures.values)) c.index-definitions-i.is c.index-values-i.is c.ids.ensures c.any_found.ensures c.if-any_found.false c.loop-i.invariant
