use Rattle.std.proofs.Common.{refl, sym, ap, ◌∙◌, subst, ◌++◌, List, Ok}
use Rattle.sgml_events.specs.declared.event.Event.{Event}
use Rattle.sgml_infer.specs.Tables.{IsNumber}
use Rattle.sgml_infer.specs.Visibles.{IsNumbered, IsVisible}
use Rattle.sgml_declared.specs.theory_standing.Kept.{Kept}
use Rattle.sgml_content_steps.specs.Content.{Content}
use Rattle.sgml_content_steps.specs.Taken.{IsRunTaken}
use Rattle.sgml_content_steps.proofs.Standing.{judged-may-stand}
use Rattle.sgml_content_tags.specs.Ends.{end_kind, TellsEnd}
use Rattle.sgml_content_tags.proofs.Ending.{judged-for, end-tells, end-memory}
use Rattle.sgml_content_tags.proofs.From.{plain-from, end-from}
use Rattle.sgml_content_tags.proofs.closing.end_element.Goals as goal

pub end_behind-requires-clause-numbered : goal.end_behind-requires-clause-numbered
end_behind-requires-clause-numbered c =
    let p = plain-from c.args.content.now c.judge_plain.new.content c.judge_plain.ensures.holds c.judge_plain.ensures.same c.judge_plain.ensures.context in
    subst (λ (k : Kept). IsNumbered k.doctype c.args.visible) (sym p.kept) c.requires.numbered

pub end_behind-requires-clause-number : goal.end_behind-requires-clause-number
end_behind-requires-clause-number c =
    let p = plain-from c.args.content.now c.judge_plain.new.content c.judge_plain.ensures.holds c.judge_plain.ensures.same c.judge_plain.ensures.context in
    subst (λ (k : Kept). IsNumber k.doctype c.args.number) (sym p.kept) c.requires.number

pub end_behind-requires-clause-visible : goal.end_behind-requires-clause-visible
end_behind-requires-clause-visible c =
    let p = plain-from c.args.content.now c.judge_plain.new.content c.judge_plain.ensures.holds c.judge_plain.ensures.same c.judge_plain.ensures.context in
    subst (λ (k : Kept). IsVisible k.doctype c.args.visible (end_kind k.doctype c.args.visible c.args.number)) (sym p.kept) c.requires.visible

pub returns-in-Err : goal.returns-in-Err
returns-in-Err c =
    end-memory c.args.texts.now c.args.n c.args.number c.args.visible c.args.content.now c.judge_plain.new.content
    c.requires.content.tree.distinct c.requires.number c.requires.visible c.args.told.now.items c.make_room.new.told.items
    c.in-Some.ensures.holds (ap (λ (z : Content). z.kept) c.in-Some.ensures.same) c.in-Some.ensures.content c.in-Err.ensures.items

pub returns-in_default : goal.returns-in_default
returns-in_default c =
    let old : Content = c.args.content.now in
    let judged : Content = c.judge_plain.new.content in
    let t : Content = c.take_run.new.content in
    let p = plain-from old judged c.judge_plain.ensures.holds c.judge_plain.ensures.same c.judge_plain.ensures.context in
    let taken = c.take_run.ensures.taken judged (record { doctype = refl; tree = refl; inside = refl }) c.in-Some.ensures.run c.place_of-place.ensures in
    subst (λ (z : Content). TellsEnd c.args.texts.now c.args.n c.args.visible c.args.number old z c.args.told.now.items c.close.new.told.items (Ok tt)) (sym c.close.ensures.content)
    (end-tells c.args.texts.now c.args.n c.args.number c.args.visible old t judged.tree judged.currents c.in-Some.run' taken.0
    judged-may-stand (judged-for old judged c.args.visible c.in-Some.run' p.same c.in-Some.ensures.run c.judge_plain.ensures.holds c.judge_plain.ensures.content)
    c.requires.number c.requires.visible (c.take_run.ensures.kept ∙ p.kept) c.take_run.ensures.currents
    (subst (λ (z : Content). IsRunTaken z t c.args.visible taken.0) p.same taken.2)
    c.args.told.now.items c.take_run.new.told.items c.close.new.told.items
    (taken.1 ∙ ap (λ (es : List Event). es ++ taken.0) c.in_default.ensures.items) c.close.ensures.told)

pub returns-in-None : goal.returns-in-None
returns-in-None c =
    let old : Content = c.args.content.now in
    let judged : Content = c.judge_plain.new.content in
    let p = plain-from old judged c.judge_plain.ensures.holds c.judge_plain.ensures.same c.judge_plain.ensures.context in
    end-from c.args.texts.now c.args.n c.args.visible c.args.number old judged c.end_behind.new.content c.args.told.now.items c.end_behind.new.told.items
    c.end_behind.result p c.end_behind.ensures
