use Rattle.sgml_esis.proofs.Holding.{puts_at}
use Rattle.sgml_full.specs.Spelled.{raw_unit}
use Rattle.sgml_full.proofs.spelling.put_raw_units.Goals as goal

pub loop-unit-preserved : goal.loop-unit-preserved
loop-unit-preserved g c =
    puts_at (raw_unit c.args.dtd.now) c.args.units.now c.loop-unit.unit-index _ _ _ _ _ _ _ _ _ _ c.loop-unit-test.true c.loop-unit.invariant c.put_raw_unit.ensures
