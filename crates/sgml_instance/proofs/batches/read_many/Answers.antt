use Rattle.std.proofs.Common.{ap, reverse}
use Rattle.sgml_instance.specs.Reading.{reader}
use Rattle.sgml_instance.proofs.Many.{rest-is-read, lacks}
use Rattle.sgml_instance.proofs.batches.read_many.Goals as goal

pub returns-in-Ok-clause-reads : goal.returns-in-Ok-clause-reads
returns-in-Ok-clause-reads g c =
    rest-is-read c.args.options.now c.args.texts.now c.args.ended c.args.content.now c.read_rest.new.content (reverse c.args.waiting.now.items) (reverse c.take_waiting.new.waiting.items) c.args.over.now c.read_rest.new.over
    c.args.told.now.items c.take_waiting.new.told.items c.read_rest.new.told.items c.read_rest.result c.in-Ok.ensures.ok (ap reverse c.in-Ok.ensures.none) c.read_rest.ensures.reads

pub returns-in-Err-clause-reads : goal.returns-in-Err-clause-reads
returns-in-Err-clause-reads g c =
    lacks (reader c.args.options.now c.args.content.now (reverse c.args.waiting.now.items) c.args.over.now) (reader c.args.options.now c.args.content.now (reverse c.take_waiting.new.waiting.items) c.args.over.now)
    c.args.texts.now c.args.ended c.args.told.now.items c.take_waiting.new.told.items c.in-Err.ensures.err
