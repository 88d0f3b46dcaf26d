use Rattle.sgml_instance.specs.Reading.{reader}
use Rattle.sgml_instance.proofs.Advancing.{first-is-told}
use Rattle.sgml_instance.proofs.reading.answer.Goals as goal
use Rattle.std.proofs.Common.{reverse}

pub returns-in-None-clause-reads : goal.returns-in-None-clause-reads
returns-in-None-clause-reads g c =
    first-is-told c.args.options.now c.args.texts.now c.args.ended (reader c.args.options.now c.args.content.now (reverse c.args.waiting.now.items) c.args.over.now) c.fill.new.content (reverse c.fill.new.waiting.items)
    (reverse c.tell_first.new.waiting.items) c.fill.new.over c.tell_first.result c.in-None.ensures.filled c.tell_first.ensures
