use Rattle.std.proofs.Common.{Err, sym, ◌∙◌, subst}
use Rattle.sgml_prolog_steps.specs.Steps.{IsStep}
use Rattle.sgml_prolog.proofs.Declarations.{misplaced-step, untaken-step, declared-step}
use Rattle.sgml_prolog.proofs.declaration.take_declaration_step.Goals as goal

pub returns-in-Ok-Some-clause-step : goal.returns-in-Ok-Some-clause-step
returns-in-Ok-Some-clause-step c asked =
    misplaced-step c.args.options.now c.args.texts.now c.args.ended asked c.args.token c.args.kept.now c.in-Ok-Some.reason c.requires.going_on c.requires.sort c.requires.there
    (sym c.in-Ok-Some.ensures ∙ c.in-Ok-Some.field-0-is)

pub returns-in-Ok-clause-step : goal.returns-in-Ok-clause-step
returns-in-Ok-clause-step c asked =
    declared-step c.args.options.now c.args.texts.now c.args.ended asked c.args.token c.args.kept.now c.read.new.kept c.requires.kept c.requires.going_on c.requires.sort c.requires.there
    (sym c.in-Ok-None.ensures ∙ c.in-Ok-None.field-0-is) c.in-Ok.ensures.taken c.in-Ok.ensures.same c.in-Ok.ensures.over c.in-Ok.ensures.more

pub returns-in-Err-read-clause-step : goal.returns-in-Err-read-clause-step
returns-in-Err-read-clause-step c asked =
    subst (λ z. IsStep c.args.options.now c.args.texts.now c.args.ended asked c.args.kept.now c.read.new.kept (Err z)) (sym c.stop_of.ensures)
    (untaken-step c.args.options.now c.args.texts.now c.args.ended asked c.args.token c.args.kept.now c.read.new.kept c.in-Err-read.error c.requires.kept c.requires.going_on c.requires.sort c.requires.there
    (sym c.in-Ok-None.ensures ∙ c.in-Ok-None.field-0-is) c.in-Err-read.ensures.err c.in-Err-read.ensures.left)
