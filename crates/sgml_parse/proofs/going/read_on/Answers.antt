use Rattle.std.proofs.Common.{None, refl, sym, ap, ◌∙◌}
use Rattle.sgml_parse.specs.There.{reading_of}
use Rattle.sgml_parse.specs.There as reading
use Rattle.sgml_parse.proofs.Leading.{over-if-done, prolog-answers-at, instance-answers-at, prolog-options, instance-options, prolog-keeps, instance-keeps, lost-answers}
use Rattle.sgml_parse.proofs.going.read_on.Goals as goal

pub take_answer-requires : goal.take_answer-requires
take_answer-requires g c =
    let before = ap reading_of c.in-Prolog.is ∙ ap reading.Prolog (sym c.deref_mut.ensures.value) in
    over-if-done c.args.options.now.value c.next-answer.new.self c.next-answer.result
    (c.next-answer.ensures.options ∙ prolog-options c.args.options.now.value (reading_of c.args.reading.now) c.deref_mut.result.now None before c.requires)
    c.next-answer.ensures.over

pub returns-in-Prolog-clause-answer : goal.returns-in-Prolog-clause-answer
returns-in-Prolog-clause-answer g c =
    let before = ap reading_of c.in-Prolog.is ∙ ap reading.Prolog (sym c.deref_mut.ensures.value) in
    prolog-answers-at c.args.options.now.value c.args.texts.now c.args.ended (reading_of c.args.reading.now) (reading.Prolog c.next-answer.new.self) c.deref_mut.result.now c.next-answer.new.self
    (reading_of c.take_answer.new.reading) c.next-answer.result c.take_answer.result before refl
    (prolog-options c.args.options.now.value (reading_of c.args.reading.now) c.deref_mut.result.now None before c.requires) c.next-answer.ensures.options c.next-answer.ensures.reads c.take_answer.ensures

pub returns-in-Prolog-clause-doctype : goal.returns-in-Prolog-clause-doctype
returns-in-Prolog-clause-doctype g c = prolog-keeps (reading_of c.args.reading.now) (reading_of c.take_answer.new.reading) c.in-Prolog.prolog.value (ap reading_of c.in-Prolog.is)

pub returns-in-Instance-clause-answer : goal.returns-in-Instance-clause-answer
returns-in-Instance-clause-answer g c =
    let before = ap reading_of c.in-Instance.is ∙ ap reading.Instance (sym c.deref_mut-in-Instance.ensures.value) in
    instance-answers-at c.args.options.now.value c.args.texts.now c.args.ended (reading_of c.args.reading.now) (reading.Instance c.next.new.self) c.deref_mut-in-Instance.result.now c.next.new.self
    c.next.result c.answer_of_instance.result before refl
    (instance-options c.args.options.now.value (reading_of c.args.reading.now) c.deref_mut-in-Instance.result.now None before c.requires) c.next.ensures.options c.next.ensures.reads c.answer_of_instance.ensures

pub returns-in-Instance-clause-doctype : goal.returns-in-Instance-clause-doctype
returns-in-Instance-clause-doctype g c =
    let before = ap reading_of c.in-Instance.is ∙ ap reading.Instance (sym c.deref_mut-in-Instance.ensures.value) in
    instance-keeps (reading_of c.args.reading.now) (reading.Instance c.next.new.self) c.deref_mut-in-Instance.result.now c.next.new.self before refl c.next.ensures.doctype

pub returns-in-Lost-clause-answer : goal.returns-in-Lost-clause-answer
returns-in-Lost-clause-answer g c = lost-answers c.args.options.now.value c.args.texts.now c.args.ended (reading_of c.args.reading.now) (ap reading_of c.in-Lost.is)
