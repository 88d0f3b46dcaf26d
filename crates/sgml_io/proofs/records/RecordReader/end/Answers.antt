use Rattle.sgml_io.proofs.Made.{ended}
use Rattle.sgml_io.proofs.records.RecordReader.end.Goals as goal

pub returns-clause-ended : goal.returns-clause-ended
returns-clause-ended c = ended c.args.self.now c.args.text.now.items
