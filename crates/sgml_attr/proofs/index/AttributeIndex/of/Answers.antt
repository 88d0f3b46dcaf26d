use Rattle.sgml_attr.proofs.Indexing.{index-made}
use Rattle.sgml_attr.proofs.index.AttributeIndex.of.Goals as goal

pub returns : goal.returns
returns c = index-made c.loop-i.index c.loop-i.i c.args.definitions.now c.loop-i-test.false c.loop-i.invariant.named c.loop-i.invariant.only
