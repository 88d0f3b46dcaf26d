use Rattle.std.proofs.Common.{sym, ap, subst, Bool, false, List}
use Rattle.sgml_markup.specs.declared.kinds.TokenKind.TheVariants as kind
use Rattle.sgml_events.specs.declared.event.Event.{Event}
use Rattle.sgml_infer.specs.Tables.{IsNumber}
use Rattle.sgml_content_steps.specs.Content.{Content}
use Rattle.sgml_content_tags.specs.Starts.{IsStartTaken}
use Rattle.sgml_content_tags.proofs.From.{plain-from}
use Rattle.sgml_content_tags.proofs.Numbered.{number-within}
use Rattle.sgml_content_tags.proofs.Ending.{judged-place}
use Rattle.sgml_content_tags.proofs.Plainly.{start-plainly, lone-kept, plainly-from, left-from}
use Rattle.sgml_content_tags.proofs.quick.take_lone_start.Goals as goal

pub is_listless-requires-clause-number : goal.is_listless-requires-clause-number
is_listless-requires-clause-number c = number-within c.args.content.now.kept.doctype _ c.args.tag.number c.requires.tag.there.named

pub judge_plain-requires-clause-number : goal.judge_plain-requires-clause-number
judge_plain-requires-clause-number c = number-within c.args.content.now.kept.doctype _ c.args.tag.number c.requires.tag.there.named

pub take_begun-requires-clause-number : goal.take_begun-requires-clause-number
take_begun-requires-clause-number c =
    let p = plain-from c.args.content.now c.judge_plain.new.content c.judge_plain.ensures.holds c.judge_plain.ensures.same c.judge_plain.ensures.context in
    subst (λ (z : Content). IsNumber z.kept.doctype c.args.tag.number) (sym c.pass_lone-start.ensures.after)
    (subst (λ (z : Content). IsNumber z.kept.doctype c.args.tag.number) (sym p.same)
    (number-within c.args.content.now.kept.doctype _ c.args.tag.number c.requires.tag.there.named))

pub take_begun-requires-clause-judged : goal.take_begun-requires-clause-judged
take_begun-requires-clause-judged c =
    let p = plain-from c.args.content.now c.judge_plain.new.content c.judge_plain.ensures.holds c.judge_plain.ensures.same c.judge_plain.ensures.context in
    let valued = c.pass_lone-start.ensures.after in (
      c.judge_plain.new.content,
      record { doctype = ap (λ (z : Content). z.kept.doctype) valued; tree = ap (λ (z : Content). z.tree) valued; inside = ap (λ (z : Content). z.inside) valued },
      c.in-Some.ensures.run,
      judged-place c.args.content.now c.judge_plain.new.content c.place_of-place.result p.same c.place_of-place.ensures,
    )

pub take_lone_behind-requires-clause-tag : goal.take_lone_behind-requires-clause-tag
take_lone_behind-requires-clause-tag c =
    let p = plain-from c.args.content.now c.judge_plain.new.content c.judge_plain.ensures.holds c.judge_plain.ensures.same c.judge_plain.ensures.context in
    lone-kept c.args.texts.now kind.StartTag 1 c.args.tag.length c.args.tag.number c.args.content.now c.judge_plain.new.content p.kept c.requires.tag

pub returns-in-None-clause-went : goal.returns-in-None-clause-went
returns-in-None-clause-went c done =
    let p = plain-from c.args.content.now c.judge_plain.new.content c.judge_plain.ensures.holds c.judge_plain.ensures.same c.judge_plain.ensures.context in
    plainly-from c.args.texts.now c.args.content.now c.judge_plain.new.content c.take_lone_behind.new.content c.args.told.now.items c.make_room.new.told.items
    c.take_lone_behind.new.told.items p c.in_default.ensures.items (c.take_lone_behind.ensures.went done)

pub returns-in-None-clause-left : goal.returns-in-None-clause-left
returns-in-None-clause-left c none =
    let p = plain-from c.args.content.now c.judge_plain.new.content c.judge_plain.ensures.holds c.judge_plain.ensures.same c.judge_plain.ensures.context in
    left-from c.args.content.now c.judge_plain.new.content c.take_lone_behind.new.content c.args.told.now.items c.make_room.new.told.items
    c.take_lone_behind.new.told.items p c.in_default.ensures.items (c.take_lone_behind.ensures.left none)

pub returns-clause-went : goal.returns-clause-went
returns-clause-went c done =
    let old : Content = c.args.content.now in
    let judged : Content = c.judge_plain.new.content in
    let mid : Content = c.pass_lone-start.new.content in
    let new : Content = c.take_begun.new.content in
    let number = c.args.tag.number in
    let start = c.pass_lone-start.result in
    let place = c.place_of-place.result in
    let p = plain-from old judged c.judge_plain.ensures.holds c.judge_plain.ensures.same c.judge_plain.ensures.context in
    let valued = c.pass_lone-start.ensures.after in
    let taken = c.take_begun.ensures.taken judged
    (record { doctype = ap (λ (z : Content). z.kept.doctype) valued; tree = ap (λ (z : Content). z.tree) valued; inside = ap (λ (z : Content). z.inside) valued })
    c.in-Some.ensures.run (judged-place old judged place p.same c.place_of-place.ensures) in
    (start-plainly c.args.texts.now c.args.tag.length number old judged mid new c.in-Some.run' start place c.args.told.now.items c.take_begun.new.told.items
    c.requires.content c.requires.tag.there p.same p.holds c.in-Some.ensures.run c.judge_plain.ensures.content c.pass_lone-start.ensures.ok valued c.place_of-place.ensures
    (subst (λ (included : Bool). IsStartTaken judged mid new place number false included start c.args.told.now.items c.take_begun.new.told.items) c.is_included.ensures
    (subst (λ (es : List Event). IsStartTaken judged mid new place number false c.is_included.result start es c.take_begun.new.told.items) c.in_default.ensures.items taken))).0

pub returns-clause-content : goal.returns-clause-content
returns-clause-content c =
    let old : Content = c.args.content.now in
    let judged : Content = c.judge_plain.new.content in
    let mid : Content = c.pass_lone-start.new.content in
    let new : Content = c.take_begun.new.content in
    let number = c.args.tag.number in
    let start = c.pass_lone-start.result in
    let place = c.place_of-place.result in
    let p = plain-from old judged c.judge_plain.ensures.holds c.judge_plain.ensures.same c.judge_plain.ensures.context in
    let valued = c.pass_lone-start.ensures.after in
    let taken = c.take_begun.ensures.taken judged
    (record { doctype = ap (λ (z : Content). z.kept.doctype) valued; tree = ap (λ (z : Content). z.tree) valued; inside = ap (λ (z : Content). z.inside) valued })
    c.in-Some.ensures.run (judged-place old judged place p.same c.place_of-place.ensures) in
    (start-plainly c.args.texts.now c.args.tag.length number old judged mid new c.in-Some.run' start place c.args.told.now.items c.take_begun.new.told.items
    c.requires.content c.requires.tag.there p.same p.holds c.in-Some.ensures.run c.judge_plain.ensures.content c.pass_lone-start.ensures.ok valued c.place_of-place.ensures
    (subst (λ (included : Bool). IsStartTaken judged mid new place number false included start c.args.told.now.items c.take_begun.new.told.items) c.is_included.ensures
    (subst (λ (es : List Event). IsStartTaken judged mid new place number false c.is_included.result start es c.take_begun.new.told.items) c.in_default.ensures.items taken))).1
