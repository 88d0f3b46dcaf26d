use Rattle.std.proofs.Common.{sym, ap}
use Rattle.sgml_said.specs.Told.{said}
use Rattle.sgml_theory_reading.specs.Lines.{lines_of}
use Rattle.sgml_event_lines.proofs.Standing.{goes_as, start_said}
use Rattle.sgml_event_lines.proofs.writer.Writer.put_event.Goals as goal

pub returns-in-Start : goal.returns-in-Start
returns-in-Start g c = goes_as c.args.dtd.now _ _ _ _ _ _ _ _ (start_said c.args.dtd.now c.args.definitions.now c.args.event.now c.in-Start.element c.in-Start.place c.in-Start.values c.items.result.now c.in-Start.is c.items.ensures c.requires.defined) c.put_start.ensures
