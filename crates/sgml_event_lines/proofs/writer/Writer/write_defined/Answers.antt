use Rattle.sgml_event_lines.proofs.Standing.{wrote_more}
use Rattle.sgml_event_lines.proofs.writer.Writer.write_defined.Goals as goal

pub returns-then-failed-clause-goes_on : goal.returns-then-failed-clause-goes_on
returns-then-failed-clause-goes_on g c = λ start count es s. wrote_more start count _ _ c.args.self.now _ _ _ c.args.dtd.now es c.args.event.now c.put_event.ensures s

pub returns-clause-goes_on : goal.returns-clause-goes_on
returns-clause-goes_on g c = λ start count es s. wrote_more start count _ _ c.args.self.now _ _ _ c.args.dtd.now es c.args.event.now c.put_event.ensures s
