use Rattle.std.proofs.Common.{sym}
use Rattle.sgml_instance.proofs.Advancing.{filled-turned}
use Rattle.sgml_instance.proofs.reading.fill.Goals as goal

pub returns-clause-filled : goal.returns-clause-filled
returns-clause-filled g c =
    filled-turned c.args.options.now c.args.texts.now c.args.ended c.args.content.now c.read_on-answer.new.content c.args.waiting.now.items c.read_on-answer.new.waiting.items c.reverse.new.self.items c.args.over.now
    c.read_on-answer.new.over c.read_on-answer.result (sym c.if-not-has_none.ensures) c.reverse.ensures.items c.read_on-answer.ensures.filled
