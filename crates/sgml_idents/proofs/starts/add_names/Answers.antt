use Rattle.sgml_idents.proofs.Growing.{names_here}
use Rattle.sgml_idents.proofs.starts.add_names.Goals as goal

pub loop-name-preserved : goal.loop-name-preserved
loop-name-preserved c = λ q. names_here q c.name-item.result c.args.names.now _ _ c.loop-name.name-index _ _ c.loop-name-test.true c.name-item.is c.items.result.now c.items.ensures.list c.in_ok-see.ensures.new c.in_ok-see.ensures.seen (c.loop-name.invariant q)
