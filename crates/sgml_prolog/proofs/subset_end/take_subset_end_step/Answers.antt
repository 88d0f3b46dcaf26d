use Rattle.std.proofs.Common.{Err, sym, subst}
use Rattle.sgml_declared.specs.theory_standing.Kept.{Kept}
use Rattle.sgml_prolog_steps.specs.Steps.{IsStep}
use Rattle.sgml_prolog.proofs.Lexing.{IsMark, back-from}
use Rattle.sgml_prolog.proofs.TypeEnds.{end-ends, end-untaken-step, ended-step, unended-step}
use Rattle.sgml_prolog.proofs.subset_end.take_subset_end_step.Goals as goal

pub returns-in-Err : goal.returns-in-Err
returns-in-Err c asked =
    subst (λ z. IsStep c.args.options.now c.args.texts.now c.args.ended asked c.args.kept.now c.read_end.new.kept (Err z)) (sym c.stop_of.ensures)
    (end-untaken-step c.args.options.now c.args.texts.now c.args.ended asked c.args.token c.args.kept.now c.read_end.new.kept c.in-Err.error c.requires.kept c.requires.going_on
    c.requires.sort c.requires.here c.requires.there c.in-Err.ensures.err c.in-Err.ensures.left)

pub returns-in-Ok-end_type : goal.returns-in-Ok-end_type
returns-in-Ok-end_type c asked =
    ended-step c.args.options.now c.args.texts.now c.args.ended asked c.args.token c.args.kept.now c.read_end.new.kept c.end_type.new.kept c.leave_subset.new.kept c.requires.kept c.requires.going_on
    c.requires.sort c.requires.here c.requires.there c.in-Ok.ensures.taken c.in-Ok.ensures.over c.in-Ok.ensures.same c.in-Ok-end_type.ensures.ends c.in-Ok-end_type.ensures.subset
    c.in-Ok-end_type.ensures.same c.leave_subset.ensures

pub returns-in-Err-end_type : goal.returns-in-Err-end_type
returns-in-Err-end_type c asked =
    unended-step c.args.options.now c.args.texts.now c.args.ended asked c.args.token c.args.kept.now c.read_end.new.kept c.go_back.new.kept c.in-Err-end_type.stop c.requires.kept c.requires.going_on
    c.requires.sort c.requires.here c.requires.there c.in-Ok.ensures.taken c.in-Ok.ensures.same c.in-Err-end_type.ensures.ends
    (back-from c.mark-mark.result c.args.kept.now c.read_end.new.kept c.end_type.new.kept c.go_back.new.kept c.args.token.length
    (subst (λ (k : Kept). IsMark c.mark-mark.result k.stack) c.kept.view_is (record { depth = c.mark-mark.ensures.depth; at = c.mark-mark.ensures.at; spent = c.mark-mark.ensures.spent }))
    (c.in-Ok.ensures.over c.args.token.length (end-ends c.args.kept.now c.args.texts.now c.args.ended c.args.token c.requires.sort c.requires.there))
    c.in-Ok.ensures.same c.in-Err-end_type.ensures.same c.in-Err-end_type.ensures.over c.go_back.ensures)
