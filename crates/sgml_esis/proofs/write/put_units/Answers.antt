use Rattle.sgml_esis.specs.Spelling.{spell_unit}
use Rattle.sgml_esis.proofs.Holding.{puts_at, puts_more}
use Rattle.sgml_esis.proofs.write.put_units.Goals as goal

pub loop-unit-preserved : goal.loop-unit-preserved
loop-unit-preserved g c =
    puts_at spell_unit c.args.text.now c.loop-unit.unit-index _ _ _ _ _ _ _ _ _ _ c.loop-unit-test.true c.loop-unit.invariant (puts_more _ _ _ _ _ c.make_room.new.held c.hold_unit.new.held _ c.make_room.ensures.puts c.hold_unit.ensures)
