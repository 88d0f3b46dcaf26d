use Rattle.std.proofs.Common.{refl, sym, ap, ◌∙◌, subst, Bool, false, List}
use Rattle.sgml_markup.specs.declared.kinds.TokenKind.TheVariants as kind
use Rattle.sgml_events.specs.declared.event.Event.{Event}
use Rattle.sgml_infer.specs.Tables.{IsNumber}
use Rattle.sgml_content_steps.specs.Content.{Content, Holds}
use Rattle.sgml_content_tags.specs.Starts.{IsStartTaken}
use Rattle.sgml_content_tags.proofs.Numbered.{number-within}
use Rattle.sgml_content_tags.proofs.Ending.{judged-place}
use Rattle.sgml_content_tags.proofs.Plainly.{start-plainly, named-kept, specified-kept}
use Rattle.sgml_content_tags.proofs.quick.take_there.Goals as goal

pub judge-requires-clause-number : goal.judge-requires-clause-number
judge-requires-clause-number c = number-within c.args.content.now.kept.doctype _ c.args.tag.number c.requires.tag.named

pub values_there-requires-clause-tag : goal.values_there-requires-clause-tag
values_there-requires-clause-tag c =
    named-kept c.args.texts.now kind.StartTag c.args.tag.length c.args.tag.number c.args.content.now c.judge.new.content (ap (λ (z : Content). z.kept) c.in-Ok.ensures.same) c.requires.tag

pub values_there-requires-clause-specifies : goal.values_there-requires-clause-specifies
values_there-requires-clause-specifies c =
    specified-kept c.args.texts.now c.args.tag.length c.args.tag.number c.args.specifies c.args.content.now c.judge.new.content (ap (λ (z : Content). z.kept) c.in-Ok.ensures.same)
    c.requires.specifies

pub returns-in-Err-values_there-clause-left : goal.returns-in-Err-values_there-clause-left
returns-in-Err-values_there-clause-left c none =
    let left = c.in-Err-values_there.ensures.left in (
      record {
        holds = λ x h. subst (λ (z : Content). Holds z x) (sym left) (c.in-Ok.ensures.holds x h);
        kept = ap (λ (z : Content). z.kept) left ∙ ap (λ (z : Content). z.kept) c.in-Ok.ensures.same;
        silent = refl;
      },
      c.in_default.ensures.items,
    )

pub take_begun-requires-clause-number : goal.take_begun-requires-clause-number
take_begun-requires-clause-number c =
    subst (λ (z : Content). IsNumber z.kept.doctype c.args.tag.number) (sym c.in-Ok-values_there.ensures.after)
    (subst (λ (z : Content). IsNumber z.kept.doctype c.args.tag.number) (sym c.in-Ok.ensures.same)
    (number-within c.args.content.now.kept.doctype _ c.args.tag.number c.requires.tag.named))

pub take_begun-requires-clause-judged : goal.take_begun-requires-clause-judged
take_begun-requires-clause-judged c =
    let valued = c.in-Ok-values_there.ensures.after in (
      c.judge.new.content,
      record { doctype = ap (λ (z : Content). z.kept.doctype) valued; tree = ap (λ (z : Content). z.tree) valued; inside = ap (λ (z : Content). z.inside) valued },
      c.in-Ok.ensures.ok,
      judged-place c.args.content.now c.judge.new.content c.place_of-place.result c.in-Ok.ensures.same c.place_of-place.ensures,
    )

pub returns-clause-went : goal.returns-clause-went
returns-clause-went c done =
    let old : Content = c.args.content.now in
    let judged : Content = c.judge.new.content in
    let mid : Content = c.values_there.new.content in
    let new : Content = c.take_begun.new.content in
    let number = c.args.tag.number in
    let start = c.in-Ok-values_there.start in
    let place = c.place_of-place.result in
    let valued = c.in-Ok-values_there.ensures.after in
    let taken = c.take_begun.ensures.taken judged
    (record { doctype = ap (λ (z : Content). z.kept.doctype) valued; tree = ap (λ (z : Content). z.tree) valued; inside = ap (λ (z : Content). z.inside) valued })
    c.in-Ok.ensures.ok (judged-place old judged place c.in-Ok.ensures.same c.place_of-place.ensures) in
    (start-plainly c.args.texts.now c.args.tag.length number old judged mid new c.in-Ok.run' start place c.args.told.now.items c.take_begun.new.told.items
    c.requires.content c.requires.tag c.in-Ok.ensures.same c.in-Ok.ensures.holds c.in-Ok.ensures.ok c.in-Ok.ensures.content c.in-Ok-values_there.ensures.ok valued c.place_of-place.ensures
    (subst (λ (included : Bool). IsStartTaken judged mid new place number false included start c.args.told.now.items c.take_begun.new.told.items) c.is_included.ensures
    (subst (λ (es : List Event). IsStartTaken judged mid new place number false c.is_included.result start es c.take_begun.new.told.items) c.in_default.ensures.items taken))).0

pub returns-clause-content : goal.returns-clause-content
returns-clause-content c =
    let old : Content = c.args.content.now in
    let judged : Content = c.judge.new.content in
    let mid : Content = c.values_there.new.content in
    let new : Content = c.take_begun.new.content in
    let number = c.args.tag.number in
    let start = c.in-Ok-values_there.start in
    let place = c.place_of-place.result in
    let valued = c.in-Ok-values_there.ensures.after in
    let taken = c.take_begun.ensures.taken judged
    (record { doctype = ap (λ (z : Content). z.kept.doctype) valued; tree = ap (λ (z : Content). z.tree) valued; inside = ap (λ (z : Content). z.inside) valued })
    c.in-Ok.ensures.ok (judged-place old judged place c.in-Ok.ensures.same c.place_of-place.ensures) in
    (start-plainly c.args.texts.now c.args.tag.length number old judged mid new c.in-Ok.run' start place c.args.told.now.items c.take_begun.new.told.items
    c.requires.content c.requires.tag c.in-Ok.ensures.same c.in-Ok.ensures.holds c.in-Ok.ensures.ok c.in-Ok.ensures.content c.in-Ok-values_there.ensures.ok valued c.place_of-place.ensures
    (subst (λ (included : Bool). IsStartTaken judged mid new place number false included start c.args.told.now.items c.take_begun.new.told.items) c.is_included.ensures
    (subst (λ (es : List Event). IsStartTaken judged mid new place number false c.is_included.result start es c.take_begun.new.told.items) c.in_default.ensures.items taken))).1
