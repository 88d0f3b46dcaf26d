use Rattle.sgml_esis.proofs.Holding.{puts_at}
use Rattle.sgml_full.specs.Spelled.{spelled_byte}
use Rattle.sgml_full.proofs.spelling.put_bytes.Goals as goal

pub loop-b-preserved : goal.loop-b-preserved
loop-b-preserved g c =
    puts_at (spelled_byte c.args.mapped) c.args.bytes.now c.loop-b.b-index _ _ _ _ _ _ _ _ _ _ c.loop-b-test.true c.loop-b.invariant c.put_byte.ensures
