use Rattle.std.proofs.Common.{None, refl, sym, ap, ◌∙◌}
use Rattle.sgml_parse.specs.There.{reading_of}
use Rattle.sgml_parse.specs.There as reading
use Rattle.sgml_parse.specs.Parsing.{is_in_instance}
use Rattle.sgml_parse.proofs.Leading.{instance-options, instance-keeps}
use Rattle.sgml_parse.proofs.Together.{instance-answers-many, appended-answers, lost-answers-many}
use Rattle.sgml_parse.proofs.going.read_many.Goals as goal

pub returns-in-Prolog-clause-answer : goal.returns-in-Prolog-clause-answer
returns-in-Prolog-clause-answer g c =
    appended-answers c.args.options.now.value c.args.texts.now c.args.ended (reading_of c.args.reading.now) (reading_of c.read_on.new.reading) c.args.told.now.items c.append.new.told.items
    c.read_on.result c.append.result (ap is_in_instance (ap reading_of c.in-Prolog.is)) c.read_on.ensures.answer c.append.ensures

pub returns-in-Instance-clause-answer : goal.returns-in-Instance-clause-answer
returns-in-Instance-clause-answer g c =
    let before = ap reading_of c.in-Instance.is ∙ ap reading.Instance (sym c.deref_mut.ensures.value) in
    instance-answers-many c.args.options.now.value c.args.texts.now c.args.ended (reading_of c.args.reading.now) (reading.Instance c.read.new.self) c.deref_mut.result.now c.read.new.self
    c.args.told.now.items c.read.new.told.items c.read.result c.pause_of_instance.result before refl
    (instance-options c.args.options.now.value (reading_of c.args.reading.now) c.deref_mut.result.now None before c.requires) c.read.ensures.options c.read.ensures.reads c.pause_of_instance.ensures

pub returns-in-Instance-clause-doctype : goal.returns-in-Instance-clause-doctype
returns-in-Instance-clause-doctype g c =
    let before = ap reading_of c.in-Instance.is ∙ ap reading.Instance (sym c.deref_mut.ensures.value) in
    instance-keeps (reading_of c.args.reading.now) (reading.Instance c.read.new.self) c.deref_mut.result.now c.read.new.self before refl c.read.ensures.doctype

pub returns-in-Lost-clause-answer : goal.returns-in-Lost-clause-answer
returns-in-Lost-clause-answer g c = lost-answers-many c.args.options.now.value c.args.texts.now c.args.ended (reading_of c.args.reading.now) c.args.told.now.items (ap reading_of c.in-Lost.is)
