use Rattle.std.proofs.Common.{Option, reverse, sym, subst}
use Rattle.sgml_declared.specs.Files.{Choices}
use Rattle.sgml_instance.specs.Reading.{NextIsReading, reader}
use Rattle.sgml_instance.specs.declared.answer.InstanceError.{InstanceError}
use Rattle.sgml_instance.proofs.Answered.{answers-then}
use Rattle.sgml_instance.proofs.instance.Instance.next.Goals as goal

pub returns-clause-reads : goal.returns-clause-reads
returns-clause-reads g c =
    subst (λ (f : Option InstanceError). NextIsReading c.args.self.now (record { options = c.self.inside.options.value; content = c.answer-answer.new.content; waiting = reverse c.answer-answer.new.waiting.items; over = c.answer-answer.new.over; failed = f }) c.args.texts.now c.args.ended c.answer-answer.result) (sym c.error_in-self-inside.ensures)
    (answers-then c.self.inside.options.value c.self.inside.content c.answer-answer.new.content (reverse c.self.inside.waiting.items) (reverse c.answer-answer.new.waiting.items) c.self.inside.over c.answer-answer.new.over
    c.self.inside.failed c.args.self.now c.args.texts.now c.args.ended c.answer-answer.result c.self.view_is
    (subst (λ (z : Choices). NextIsReading (reader z c.self.inside.content (reverse c.self.inside.waiting.items) c.self.inside.over)
    (reader z c.answer-answer.new.content (reverse c.answer-answer.new.waiting.items) c.answer-answer.new.over) c.args.texts.now c.args.ended c.answer-answer.result) c.deref.ensures c.answer-answer.ensures.reads))
