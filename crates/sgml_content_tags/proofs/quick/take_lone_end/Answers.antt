use Rattle.std.proofs.Common.{refl, sym, ap, ◌∙◌, subst, ◌++◌, List}
use Rattle.sgml_scan.specs.declared.state.Token.{Token}
use Rattle.sgml_markup.specs.declared.kinds.TokenKind.TheVariants as kind
use Rattle.sgml_events.specs.declared.event.Event.{Event}
use Rattle.sgml_infer.specs.declared.visible.Visible.TheVariants as visible
use Rattle.sgml_infer.specs.Tables.{IsNumber}
use Rattle.sgml_content_steps.specs.Content.{Content, IsContent}
use Rattle.sgml_content_steps.specs.Taken.{IsRunTaken}
use Rattle.sgml_content_steps.proofs.Standing.{judged-may-stand}
use Rattle.sgml_content_tags.specs.Quick.{TellsInContent}
use Rattle.sgml_content_tags.proofs.Numbered.{number-within}
use Rattle.sgml_content_tags.proofs.Ending.{judged-for, judged-place, end-tells, end-content}
use Rattle.sgml_content_tags.proofs.From.{plain-from}
use Rattle.sgml_content_tags.proofs.Tags.{tag-ends}
use Rattle.sgml_content_tags.proofs.Plainly.{end-plainly}
use Rattle.sgml_content_tags.proofs.quick.take_lone_end.Goals as goal

pub judge_plain-requires-clause-number : goal.judge_plain-requires-clause-number
judge_plain-requires-clause-number c = number-within c.args.content.now.kept.doctype _ c.args.tag.number c.requires.tag.there.named

pub take_run-requires-clause-number : goal.take_run-requires-clause-number
take_run-requires-clause-number c =
    let p = plain-from c.args.content.now c.judge_plain.new.content c.judge_plain.ensures.holds c.judge_plain.ensures.same c.judge_plain.ensures.context in
    subst (λ (z : Content). IsNumber z.kept.doctype c.args.tag.number) (sym p.same)
    (number-within c.args.content.now.kept.doctype _ c.args.tag.number c.requires.tag.there.named)

pub returns-clause-went : goal.returns-clause-went
returns-clause-went c done =
    let old : Content = c.args.content.now in
    let judged : Content = c.judge_plain.new.content in
    let left : Content = c.take_run.new.content in
    let texts = c.args.texts.now in
    let number = c.args.tag.number in
    let t : Token = record { kind = kind.EndTag; length = c.args.tag.length } in
    let p = plain-from old judged c.judge_plain.ensures.holds c.judge_plain.ensures.same c.judge_plain.ensures.context in
    let taken = c.take_run.ensures.taken judged (record { doctype = refl; tree = refl; inside = refl }) c.in-Some.ensures.run
    (judged-place old judged c.place_of-place.result p.same c.place_of-place.ensures) in
    subst (λ (z : Content). TellsInContent texts old z c.args.told.now.items c.close_lone.new.told.items) (sym c.close_lone.ensures.content)
    (end-plainly texts t (visible.EndTag number) number old _ c.args.told.now.items c.close_lone.new.told.items c.requires.tag.there.tag
    (tag-ends texts t old refl number c.requires.tag.there.named)
    (end-tells texts t.length number (visible.EndTag number) old left judged.tree judged.currents c.in-Some.run' taken.0
    judged-may-stand (judged-for old judged (visible.EndTag number) c.in-Some.run' p.same c.in-Some.ensures.run c.judge_plain.ensures.holds c.judge_plain.ensures.content)
    (number-within old.kept.doctype _ number c.requires.tag.there.named) refl (c.take_run.ensures.kept ∙ p.kept) c.take_run.ensures.currents
    (subst (λ (z : Content). IsRunTaken z left (visible.EndTag number) taken.0) p.same taken.2)
    c.args.told.now.items c.take_run.new.told.items c.close_lone.new.told.items
    (taken.1 ∙ ap (λ (es : List Event). es ++ taken.0) c.in_default.ensures.items) c.close_lone.ensures.told))

pub returns-clause-content : goal.returns-clause-content
returns-clause-content c =
    let old : Content = c.args.content.now in
    let judged : Content = c.judge_plain.new.content in
    let left : Content = c.take_run.new.content in
    let number = c.args.tag.number in
    let p = plain-from old judged c.judge_plain.ensures.holds c.judge_plain.ensures.same c.judge_plain.ensures.context in
    let taken = c.take_run.ensures.taken judged (record { doctype = refl; tree = refl; inside = refl }) c.in-Some.ensures.run
    (judged-place old judged c.place_of-place.result p.same c.place_of-place.ensures) in
    subst IsContent (sym c.close_lone.ensures.content)
    (end-content c.args.texts.now c.args.tag.length number (visible.EndTag number) old left judged.tree judged.currents c.in-Some.run' taken.0
    judged-may-stand (judged-for old judged (visible.EndTag number) c.in-Some.run' p.same c.in-Some.ensures.run c.judge_plain.ensures.holds c.judge_plain.ensures.content)
    (number-within old.kept.doctype _ number c.requires.tag.there.named) refl (c.take_run.ensures.kept ∙ p.kept) c.take_run.ensures.currents
    (subst (λ (z : Content). IsRunTaken z left (visible.EndTag number) taken.0) p.same taken.2))
