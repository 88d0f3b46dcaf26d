use Rattle.std.proofs.Common.{Ok, refl, ap, ◌∙◌, subst}
use Rattle.sgml_prolog.specs.declared.answer.PrologStep.TheVariants as prolog_step
use Rattle.sgml_parse.specs.There.{reading_of}
use Rattle.sgml_parse.specs.Going.{IsOverIfDone}
use Rattle.sgml_parse.proofs.Leading.{told-error, told-step}
use Rattle.sgml_parse.proofs.going.take_answer.Goals as goal

pub returns-in-Err : goal.returns-in-Err
returns-in-Err c =
    told-error c.args.options.now.value (reading_of c.args.reading.now) c.args.answer c.in-Err.error c.error_of_prolog.result c.in-Err.is c.error_of_prolog.ensures

pub returns-in-Pi : goal.returns-in-Pi
returns-in-Pi c =
    told-step c.args.options.now.value (reading_of c.args.reading.now) (reading_of c.args.reading.now) c.args.answer c.in-Ok.step (prolog_step.Pi c.in-Pi.text c.in-Pi.entity c.in-Pi.place) _ c.in-Ok.is c.in-Pi.is
    (refl, refl)

pub returns-in-Want : goal.returns-in-Want
returns-in-Want c =
    told-step c.args.options.now.value (reading_of c.args.reading.now) (reading_of c.args.reading.now) c.args.answer c.in-Ok.step (prolog_step.Want c.in-Want.entity c.in-Want.name) _ c.in-Ok.is c.in-Want.is (refl, refl)

pub returns-in-More : goal.returns-in-More
returns-in-More c =
    told-step c.args.options.now.value (reading_of c.args.reading.now) (reading_of c.args.reading.now) c.args.answer c.in-Ok.step prolog_step.More _ c.in-Ok.is c.in-More.is (refl, refl)

pub go_over-requires : goal.go_over-requires
go_over-requires c = subst (IsOverIfDone c.args.options.now.value (reading_of c.args.reading.now)) (c.in-Ok.is ∙ ap Ok c.in-Done.is) c.requires

pub returns-in-Done : goal.returns-in-Done
returns-in-Done c =
    told-step c.args.options.now.value (reading_of c.args.reading.now) (reading_of c.go_over.new.reading) c.args.answer c.in-Ok.step prolog_step.Done c.go_over.result c.in-Ok.is c.in-Done.is c.go_over.ensures
