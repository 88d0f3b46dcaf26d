use Rattle.std.proofs.Common.{arith, sym, ap, ◌∙◌}
use Rattle.sgml_idents.proofs.Growing.{idrefs_here}
use Rattle.sgml_idents.proofs.starts.add_idrefs.Goals as goal

pub loop-name-preserved : goal.loop-name-preserved
loop-name-preserved c = idrefs_here c.args.place c.name-item.result c.args.names.now c.loop-name.name-index _ _ _ c.loop-name-test.true c.name-item.is c.in_ok-add_idref.ensures c.loop-name.invariant
