use Rattle.std.proofs.Common.{Option, Result, sym, ◌∙◌, ap, subst}
use Rattle.sgml_declared.specs.theory_reading.Reads.{top_place}
use Rattle.sgml_declared.specs.theory_standing.Kept.{Kept}
use Rattle.sgml_prolog.specs.Going.{Advances}
use Rattle.sgml_prolog.specs.declared.answer.PrologStep.{PrologStep}
use Rattle.sgml_prolog.specs.declared.answer.PrologError.{PrologError}
use Rattle.sgml_prolog.proofs.Advancing.{turn-advances, stop-advances, stop-over}
use Rattle.sgml_prolog.proofs.reading.advance.Goals as goal

pub returns-in-Ok-clause-advances : goal.returns-in-Ok-clause-advances
returns-in-Ok-clause-advances g c =
    let place = c.place_of-place.ensures ∙ ap (λ (k : Kept). top_place k.stack.places) c.kept.view_is in
    subst (λ (t : Option (Result PrologStep PrologError)). Advances c.args.options.now c.args.texts.now c.args.ended c.args.asked.now c.args.asked.now c.args.kept.now c.step.new.kept t) (sym c.told_at.ensures)
    (turn-advances c.args.options.now c.args.texts.now c.args.ended c.args.asked.now c.args.kept.now c.step.new.kept c.in-Ok.turn c.place_of-place.result place c.in-Ok.ensures.step)

pub returns-in-Err-clause-advances : goal.returns-in-Err-clause-advances
returns-in-Err-clause-advances g c =
    let place = c.place_of-place.ensures ∙ ap (λ (k : Kept). top_place k.stack.places) c.kept.view_is in
    stop-advances c.args.options.now c.args.texts.now c.args.ended c.args.asked.now c.stopped_at.new.asked c.args.kept.now c.step.new.kept c.in-Err.stop c.place_of-place.result c.stopped_at.result place
    c.in-Err.ensures.step c.stopped_at.ensures.told c.stopped_at.ensures.asked

pub returns-in-Err-clause-over : goal.returns-in-Err-clause-over
returns-in-Err-clause-over g c = stop-over c.step.new.kept c.in-Err.stop c.place_of-place.result c.stopped_at.result c.stopped_at.ensures.told
