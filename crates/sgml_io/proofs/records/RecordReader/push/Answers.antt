use Rattle.sgml_io.proofs.Made.{pushed}
use Rattle.sgml_io.proofs.records.RecordReader.push.Goals as goal

pub returns-in-Ok-clause-pushed : goal.returns-in-Ok-clause-pushed
returns-in-Ok-clause-pushed c =
    pushed c.args.self.now (record { start = c.in-Ok.edge.0; after_cr = c.in-Ok.edge.1 }) c.args.bytes.now c.args.text.now.items c.append_records.new.text.items c.append_records.ensures.err c.in-Ok.ensures.ok
