use Rattle.std.proofs.Common.{Option, reverse, sym, ap, ◌∙◌, subst}
use Rattle.sgml_declared.specs.Files.{Choices}
use Rattle.sgml_instance.specs.Reading.{Reader, reader}
use Rattle.sgml_instance.specs.Batches.{ReadsOn}
use Rattle.sgml_instance.specs.declared.answer.InstanceError.{InstanceError}
use Rattle.sgml_instance.proofs.Answered.{with_failure}
use Rattle.sgml_instance.proofs.Many.{reads-then, answered-before}
use Rattle.sgml_instance.proofs.instance.Instance.read.Goals as goal

pub returns-in-Some-clause-reads : goal.returns-in-Some-clause-reads
returns-in-Some-clause-reads g c = answered-before c.args.self.now _ c.args.texts.now c.args.ended c.args.told.now.items c.in-Some.error _ (ap (λ (z : Reader). z.failed) (sym c.self.view_is) ∙ c.in-Some.is)

pub returns-clause-reads : goal.returns-clause-reads
returns-clause-reads g c =
    subst (λ (f : Option InstanceError). ReadsOn c.args.self.now (with_failure c.self.inside.options.value c.read_many-answer.new.content (reverse c.read_many-answer.new.waiting.items) c.read_many-answer.new.over f) c.args.texts.now c.args.ended c.args.told.now.items c.read_many-answer.new.told.items c.read_many-answer.result) (sym c.error_of-self-inside.ensures)
    (reads-then c.self.inside.options.value c.self.inside.content c.read_many-answer.new.content (reverse c.self.inside.waiting.items) (reverse c.read_many-answer.new.waiting.items) c.self.inside.over c.read_many-answer.new.over
    c.self.inside.failed c.args.self.now c.args.texts.now c.args.ended c.args.told.now.items c.read_many-answer.new.told.items c.read_many-answer.result c.self.view_is
    (subst (λ (z : Choices). ReadsOn (reader z c.self.inside.content (reverse c.self.inside.waiting.items) c.self.inside.over)
    (reader z c.read_many-answer.new.content (reverse c.read_many-answer.new.waiting.items) c.read_many-answer.new.over) c.args.texts.now c.args.ended c.args.told.now.items c.read_many-answer.new.told.items c.read_many-answer.result) c.deref.ensures c.read_many-answer.ensures.reads))
