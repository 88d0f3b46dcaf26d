use Rattle.std.proofs.Common.{ap, sym, ◌∙◌}
use Rattle.sgml_events.specs.Stretches.{units_shown}
use Rattle.sgml_said.specs.Told.{said_data}
use Rattle.sgml_theory_reading.specs.Lines.{lines_of}
use Rattle.sgml_event_lines.proofs.Standing.{goes_as}
use Rattle.sgml_event_lines.proofs.writer.Writer.put_data.Goals as goal

pub returns-in-Bytes : goal.returns-in-Bytes
returns-in-Bytes g c = goes_as c.args.dtd.now _ _ _ _ _ _ _ _ (ap (λ us. lines_of c.args.dtd.now (said_data c.args.dtd.now us)) (sym (ap units_shown c.in-Bytes.is) ∙ c.parts.ensures)) (c.put_bytes.ensures c.args.dtd.now)

pub returns-in-Units : goal.returns-in-Units
returns-in-Units g c = goes_as c.args.dtd.now _ _ _ _ _ _ _ _ (ap (λ us. lines_of c.args.dtd.now (said_data c.args.dtd.now us)) (sym (ap units_shown c.in-Units.is) ∙ c.parts.ensures)) c.put_unit_data.ensures
