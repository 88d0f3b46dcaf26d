use Rattle.sgml_event_lines.proofs.Standing.{goes_as, bare_is}
use Rattle.sgml_event_lines.proofs.writer.Writer.put_start.Goals as goal

pub returns-in-empty : goal.returns-in-empty
returns-in-empty g c = goes_as c.args.dtd.now _ _ _ _ _ _ _ _ (bare_is c.args.dtd.now c.args.definitions.now c.args.values.now c.args.element c.in-empty.len_below) c.put_bare_start.ensures
