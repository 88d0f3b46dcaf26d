use Rattle.sgml_esis.proofs.Holding.{puts_at}
use Rattle.sgml_full.specs.Spelled.{line_byte}
use Rattle.sgml_full.proofs.spelling.put_line.Goals as goal

pub loop-b-preserved : goal.loop-b-preserved
loop-b-preserved g c =
    puts_at line_byte c.args.text.now c.loop-b.b-index _ _ _ _ _ _ _ _ _ _ c.loop-b-test.true c.loop-b.invariant c.put_line_byte.ensures
