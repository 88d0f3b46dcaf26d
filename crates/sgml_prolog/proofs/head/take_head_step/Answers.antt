use Rattle.std.proofs.Common.{Err, sym, subst}
use Rattle.sgml_prolog_steps.specs.Steps.{IsStep}
use Rattle.sgml_prolog.proofs.Taken.{head-step, stopped-head}
use Rattle.sgml_prolog.proofs.head.take_head_step.Goals as goal

pub returns-in-Ok : goal.returns-in-Ok
returns-in-Ok c =
    head-step c.args.options.now c.args.texts.now c.args.ended c.args.asked.now c.args.token c.args.kept.now c.read.new.kept c.requires.kept c.requires.going_on c.requires.there c.requires.sort
    c.requires.head c.in-Ok.ensures.taken

pub returns-in-Err : goal.returns-in-Err
returns-in-Err c =
    subst (λ z. IsStep c.args.options.now c.args.texts.now c.args.ended c.args.asked.now c.args.kept.now c.read.new.kept (Err z)) (sym c.stop_of.ensures)
    (stopped-head c.args.options.now c.args.texts.now c.args.ended c.args.asked.now c.args.token c.args.kept.now c.read.new.kept c.in-Err.error c.requires.kept c.requires.going_on c.requires.there
    c.requires.sort c.requires.head c.in-Err.ensures.err c.in-Err.ensures.left)
