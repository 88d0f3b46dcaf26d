use Rattle.std.specs.Prelude.{flat_map}
use Rattle.sgml_event_lines.specs.Standing.{unit_bytes}
use Rattle.sgml_esis.proofs.Holding.{puts_at}
use Rattle.sgml_event_lines.proofs.texts.put_units.Goals as goal

pub loop-unit-preserved : goal.loop-unit-preserved
loop-unit-preserved g c =
    puts_at (unit_bytes c.args.dtd.now) c.args.units.now c.loop-unit.unit-index _ _ _ _ _ _ _ _ _ _ c.loop-unit-test.true c.loop-unit.invariant c.put_unit.ensures

pub returns-then-goes_nowhere : goal.returns-then-goes_nowhere
returns-then-goes_nowhere g c = c.put_unseen.ensures (flat_map (unit_bytes c.args.dtd.now) c.args.units.now)
