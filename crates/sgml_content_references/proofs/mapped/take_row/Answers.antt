use Rattle.std.specs.Prelude.{◌≤◌, [], ◌∷◌, length}
use Rattle.std.proofs.Common.{refl, sym, subst}
use Rattle.sgml_events.specs.declared.event.Event.TheVariants as event
use Rattle.sgml_declared.specs.theory_standing.Kept.{Kept}
use Rattle.sgml_prolog_steps.specs.Found.{rest_in}
use Rattle.sgml_content_data.proofs.From.{plain-from}
use Rattle.sgml_content_data.proofs.Alike.{judged-left, taken-content}
use Rattle.sgml_content_references.specs.Entities.{IsEntityTaken}
use Rattle.sgml_content_references.proofs.Rows.{row-tells}
use Rattle.sgml_content_references.proofs.mapped.take_row.Goals as goal

pub take_told-requires-clause-within : goal.take_told-requires-clause-within
take_told-requires-clause-within c =
    let p = plain-from c.args.content.now c.judge_plain.new.content c.judge_plain.ensures.holds c.judge_plain.ensures.same c.judge_plain.ensures.context c.judge_plain.ensures.content in
    subst (λ (k : Kept). c.args.n ≤ length (rest_in k c.args.texts.now)) (sym p.from.kept) c.requires.within

pub returns-in-Ok-clause-takes : goal.returns-in-Ok-clause-takes
returns-in-Ok-clause-takes c =
    let p = plain-from c.args.content.now c.judge_plain.new.content c.judge_plain.ensures.holds c.judge_plain.ensures.same c.judge_plain.ensures.context c.judge_plain.ensures.content in
    row-tells c.args.texts.now c.args.n c.args.content.now c.judge_plain.new.content c.take_told.new.content c.args.told.now.items c.take_told.new.told.items c.in-Some.run'
    c.requires.content p.from c.in-Some.ensures.run c.in-Some.ensures.plain c.requires.around c.requires.some c.requires.within c.requires.each c.requires.ends
    (subst (λ us. IsEntityTaken c.judge_plain.new.content c.take_told.new.content c.args.n (event.Chars us ∷ []) c.args.told.now.items c.take_told.new.told.items) c.requires.stretch c.in-Ok.ensures.taken)

pub returns-in-Err-clause-takes : goal.returns-in-Err-clause-takes
returns-in-Err-clause-takes c =
    let p = plain-from c.args.content.now c.judge_plain.new.content c.judge_plain.ensures.holds c.judge_plain.ensures.same c.judge_plain.ensures.context c.judge_plain.ensures.content in
    (judged-left c.args.content.now c.judge_plain.new.content c.take_told.new.content p c.in-Err.ensures.content, c.in-Err.ensures.told)

pub returns-in-None-clause-takes : goal.returns-in-None-clause-takes
returns-in-None-clause-takes c =
    let p = plain-from c.args.content.now c.judge_plain.new.content c.judge_plain.ensures.holds c.judge_plain.ensures.same c.judge_plain.ensures.context c.judge_plain.ensures.content in
    (judged-left c.args.content.now c.judge_plain.new.content c.judge_plain.new.content p refl, refl)

pub returns-in-Ok-clause-content : goal.returns-in-Ok-clause-content
returns-in-Ok-clause-content c =
    let t = c.in-Ok.ensures.taken in
    taken-content c.judge_plain.new.content c.take_told.new.content c.args.n _ c.args.told.now.items t.run_told t.released c.judge_plain.ensures.content t.taken
