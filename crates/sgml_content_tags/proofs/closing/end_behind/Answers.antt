use Rattle.std.proofs.Common.{refl, sym, ap, ◌∙◌, subst, ◌++◌, List, Ok}
use Rattle.sgml_events.specs.declared.event.Event.{Event}
use Rattle.sgml_content_steps.specs.Content.{Content}
use Rattle.sgml_content_steps.specs.Taken.{IsRunTaken}
use Rattle.sgml_content_steps.proofs.Standing.{judged-may-stand}
use Rattle.sgml_content_tags.specs.Ends.{TellsEnd}
use Rattle.sgml_content_tags.proofs.Ending.{judged-for, judged-place, end-tells, end-stops, end-memory}
use Rattle.sgml_content_tags.proofs.closing.end_behind.Goals as goal

pub returns-in-Err : goal.returns-in-Err
returns-in-Err c =
    end-stops c.args.texts.now c.args.n c.args.number c.args.visible c.args.content.now c.judge.new.content
    c.requires.content.tree.distinct c.requires.number c.requires.visible c.in-Err.stop c.args.told.now.items c.args.told.now.items
    c.in-Err.ensures.stops c.in-Err.ensures.refused c.in-Err.ensures.holds (ap (λ (z : Content). z.kept) c.in-Err.ensures.same) c.in-Err.ensures.content refl

pub returns-in-Err-make_room : goal.returns-in-Err-make_room
returns-in-Err-make_room c =
    end-memory c.args.texts.now c.args.n c.args.number c.args.visible c.args.content.now c.judge.new.content
    c.requires.content.tree.distinct c.requires.number c.requires.visible c.args.told.now.items c.make_room.new.told.items
    c.in-Ok.ensures.holds (ap (λ (z : Content). z.kept) c.in-Ok.ensures.same) c.in-Ok.ensures.content c.in-Err-make_room.ensures.items

pub returns : goal.returns
returns c =
    let old : Content = c.args.content.now in
    let judged : Content = c.judge.new.content in
    let t : Content = c.take_run.new.content in
    let same = c.in-Ok.ensures.same in
    let taken = c.take_run.ensures.taken judged (record { doctype = refl; tree = refl; inside = refl }) c.in-Ok.ensures.ok
    (judged-place old judged c.place_of-place.result same c.place_of-place.ensures) in
    subst (λ (z : Content). TellsEnd c.args.texts.now c.args.n c.args.visible c.args.number old z c.args.told.now.items c.close.new.told.items (Ok tt)) (sym c.close.ensures.content)
    (end-tells c.args.texts.now c.args.n c.args.number c.args.visible old t judged.tree judged.currents c.in-Ok.run' taken.0
    judged-may-stand (judged-for old judged c.args.visible c.in-Ok.run' same c.in-Ok.ensures.ok c.in-Ok.ensures.holds c.in-Ok.ensures.content)
    c.requires.number c.requires.visible (c.take_run.ensures.kept ∙ ap (λ (z : Content). z.kept) same) c.take_run.ensures.currents
    (subst (λ (z : Content). IsRunTaken z t c.args.visible taken.0) same taken.2)
    c.args.told.now.items c.take_run.new.told.items c.close.new.told.items
    (taken.1 ∙ ap (λ (es : List Event). es ++ taken.0) c.in_default.ensures.items) c.close.ensures.told)
