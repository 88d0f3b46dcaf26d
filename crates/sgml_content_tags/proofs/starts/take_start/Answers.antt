use Rattle.std.proofs.Common.{◌≡◌, refl, sym, ap, ◌∙◌, subst, Bool, List, ◌++◌, Some, Ok, Err}
use Rattle.std.specs.Prelude.{take}
use Rattle.sgml_prolog_steps.specs.Found.{rest_in}
use Rattle.sgml_events.specs.declared.event.Event.{Event}
use Rattle.sgml_starts.specs.Specified.{specified}
use Rattle.sgml_starts.specs.Starts.{start_of, after, HasValues, IsUnvalued}
use Rattle.sgml_starts.specs.Values.{unvalued}
use Rattle.sgml_theory_spelling.specs.theory_reading.Names.{Text}
use Rattle.sgml_theory_spelling.specs.theory_reading.Facets.{is_slash}
use Rattle.sgml_theory_spelling.specs.Tags.{how_of}
use Rattle.sgml_content_steps.specs.theory_starts.There.{input_at}
use Rattle.sgml_infer.specs.Tables.{IsNumber}
use Rattle.sgml_infer.specs.declared.visible.Visible.TheVariants as visible
use Rattle.sgml_prolog_steps.specs.declared.stepping.Stop.TheVariants as stop
use Rattle.sgml_text.specs.declared.reason.Reason.TheVariants as reason
use Rattle.sgml_content_steps.specs.Content.{Content, Holds, IsContent}
use Rattle.sgml_content_steps.specs.Steps.{TakesIn}
use Rattle.sgml_content_steps.proofs.Standing.{judged-may-stand}
use Rattle.sgml_content_tags.specs.Starts.{IsStartTaken}
use Rattle.sgml_content_tags.specs.Named.{IsLone}
use Rattle.sgml_content_tags.specs.Values.{StopsFor}
use Rattle.sgml_content_tags.proofs.Numbered.{number-within, named-there}
use Rattle.sgml_content_tags.proofs.Stopping.{silent, leaves-itself, stop-step}
use Rattle.sgml_content_tags.proofs.Ending.{judged-for, judged-place}
use Rattle.sgml_content_tags.proofs.Started.{valued_from, start-step, start-tells, begun-from, all-from}
use Rattle.sgml_content_tags.proofs.Refusing.{judged-steps}
use Rattle.sgml_content_tags.proofs.Tagging.{tag-unknown, start-there, tag-grows, tag-stops, tag-start}
use Rattle.sgml_content_tags.proofs.starts.take_start.Goals as goal

pub returns-in-Ok-None : goal.returns-in-Ok-None
returns-in-Ok-None c =
    let old : Content = c.args.content.now in
    silent (λ (told : List Event). TakesIn c.args.options.now c.args.texts.now c.args.token old old told (Err (stop.Refused reason.Undefined))) old.kept
    c.args.told.now.items c.args.told.now.items refl
    (λ st more there. stop-step c.args.options.now st c.args.texts.now more old old (stop.Refused reason.Undefined)
    (λ outside x options h held.
    tag-unknown c.args.texts.now c.args.token old c.requires.kind c.requires.content c.requires.within (named-there c.args.content.now.kept.doctype _ _ _ c.tag_at-tag.ensures (sym c.in-Ok-None.ensures ∙ c.in-Ok-None.field-0-is)) st more there outside x h held)
    (leaves-itself old) c.requires.content)

pub returns-in-Err : goal.returns-in-Err
returns-in-Err c =
    let old : Content = c.args.content.now in
    silent (λ (told : List Event). TakesIn c.args.options.now c.args.texts.now c.args.token old old told (Err stop.Memory)) old.kept
    c.args.told.now.items c.args.told.now.items refl
    (λ st more there. stop-step c.args.options.now st c.args.texts.now more old old stop.Memory (λ outside x options h held. tt) (leaves-itself old) c.requires.content)

pub judge-requires-clause-number : goal.judge-requires-clause-number
judge-requires-clause-number c =
    number-within c.args.content.now.kept.doctype _ c.in-Ok-Some.number (sym c.in-Ok-Some.ensures ∙ c.in-Ok-Some.field-0-is)

pub returns-in-Err-judge : goal.returns-in-Err-judge
returns-in-Err-judge c =
    let old : Content = c.args.content.now in
    let new : Content = c.judge.new.content in
    let named = named-there c.args.content.now.kept.doctype _ _ _ c.tag_at-tag.ensures (sym c.in-Ok-Some.ensures ∙ c.in-Ok-Some.field-0-is) in
    silent (λ (told : List Event). TakesIn c.args.options.now c.args.texts.now c.args.token old new told (Err c.in-Err-judge.stop)) old.kept
    c.args.told.now.items c.args.told.now.items refl
    (λ st more there. stop-step c.args.options.now st c.args.texts.now more old new c.in-Err-judge.stop
    (λ outside x options h held.
    judged-steps outside x c.args.texts.now more c.args.token.length c.in-Ok-Some.number old
    (start-there c.args.texts.now c.args.token old c.requires.kind c.requires.content c.requires.within c.in-Ok-Some.number named st more there outside x h held)
    new c.in-Err-judge.stop c.requires.content.tree.distinct (number-within old.kept.doctype _ c.in-Ok-Some.number named) h
    c.in-Err-judge.ensures.stops c.in-Err-judge.ensures.refused)
    (record { holds = c.in-Err-judge.ensures.holds; kept = ap (λ (z : Content). z.kept) c.in-Err-judge.ensures.same; silent = refl })
    c.in-Err-judge.ensures.content)

pub returns-in-Err-make_room : goal.returns-in-Err-make_room
returns-in-Err-make_room c =
    let old : Content = c.args.content.now in
    let new : Content = c.judge.new.content in
    silent (λ (told : List Event). TakesIn c.args.options.now c.args.texts.now c.args.token old new told (Err stop.Memory)) old.kept
    c.args.told.now.items c.make_room.new.told.items c.in-Err-make_room.ensures.items
    (λ st more there. stop-step c.args.options.now st c.args.texts.now more old new stop.Memory (λ outside x options h held. tt)
    (record { holds = c.in-Ok.ensures.holds; kept = ap (λ (z : Content). z.kept) c.in-Ok.ensures.same; silent = refl }) c.in-Ok.ensures.content)

pub values_in-requires-clause-number : goal.values_in-requires-clause-number
values_in-requires-clause-number c =
    subst (λ (z : Content). IsNumber z.kept.doctype c.in-Ok-Some.number) (sym c.in-Ok.ensures.same)
    (number-within c.args.content.now.kept.doctype _ c.in-Ok-Some.number (sym c.in-Ok-Some.ensures ∙ c.in-Ok-Some.field-0-is))

pub values_in-requires-clause-lone : goal.values_in-requires-clause-lone
values_in-requires-clause-lone c =
    subst (λ (z : Content). IsLone z.kept.doctype.syntax (take c.args.token.length (rest_in z.kept c.args.texts.now)) c.lone_in-lone.result) (sym c.in-Ok.ensures.same)
    (subst (λ (bytes : Text). IsLone c.args.content.now.kept.doctype.syntax bytes c.lone_in-lone.result) c.tag_at-tag.ensures c.lone_in-lone.ensures.lone)

pub returns-in-Err-values_in : goal.returns-in-Err-values_in
returns-in-Err-values_in c =
    let old : Content = c.args.content.now in
    let judged : Content = c.judge.new.content in
    let new : Content = c.values_in.new.content in
    let texts = c.args.texts.now in
    let t = c.args.token in
    let named = named-there c.args.content.now.kept.doctype _ _ _ c.tag_at-tag.ensures (sym c.in-Ok-Some.ensures ∙ c.in-Ok-Some.field-0-is) in
    let numbered = number-within old.kept.doctype _ c.in-Ok-Some.number named in
    let same = c.in-Ok.ensures.same in
    let left = c.in-Err-values_in.ensures.left in
    let none = subst (λ (z : Content). IsUnvalued (unvalued (start_of z.kept.doctype.syntax z.kept.doctype c.in-Ok-Some.number z.currents) (specified (input_at z.kept texts) (Some t.length)))
    c.in-Err-values_in.error) same c.in-Err-values_in.ensures.err in
    let stops = subst (λ (z : Content). StopsFor c.args.options.now z.kept c.in-Err-values_in.error c.stop_for.result) (c.content.view_is ∙ (left ∙ same)) c.stop_for.ensures in
    silent (λ (told : List Event). TakesIn c.args.options.now texts t old new told (Err c.stop_for.result)) old.kept
    c.args.told.now.items c.make_room.new.told.items c.in_default.ensures.items
    (λ st more there. stop-step c.args.options.now st texts more old new c.stop_for.result
    (λ outside x options h held.
    tag-stops texts t old c.requires.kind c.requires.content c.requires.within c.in-Ok-Some.number named numbered judged.tree judged.currents c.in-Ok.run'
    (judged-for old judged (visible.Start c.in-Ok-Some.number) c.in-Ok.run' same c.in-Ok.ensures.ok c.in-Ok.ensures.holds c.in-Ok.ensures.content) x h
    judged-may-stand c.args.options.now new c.in-Err-values_in.error c.stop_for.result none stops st more there outside options held)
    (record {
      holds = λ x h. subst (λ (z : Content). Holds z x) (sym left) (c.in-Ok.ensures.holds x h);
      kept = ap (λ (z : Content). z.kept) left ∙ ap (λ (z : Content). z.kept) same;
      silent = refl;
    })
    (subst IsContent (sym left) c.in-Ok.ensures.content))

pub take_begun-requires-clause-number : goal.take_begun-requires-clause-number
take_begun-requires-clause-number c =
    subst (λ (z : Content). IsNumber z.kept.doctype c.in-Ok-Some.number) (sym c.in-Ok-values_in.ensures.after)
    (subst (λ (z : Content). IsNumber z.kept.doctype c.in-Ok-Some.number) (sym c.in-Ok.ensures.same)
    (number-within c.args.content.now.kept.doctype _ c.in-Ok-Some.number (sym c.in-Ok-Some.ensures ∙ c.in-Ok-Some.field-0-is)))

pub take_begun-requires-clause-judged : goal.take_begun-requires-clause-judged
take_begun-requires-clause-judged c =
    let valued = c.in-Ok-values_in.ensures.after in (
      c.judge.new.content,
      record { doctype = ap (λ (z : Content). z.kept.doctype) valued; tree = ap (λ (z : Content). z.tree) valued; inside = ap (λ (z : Content). z.inside) valued },
      c.in-Ok.ensures.ok,
      judged-place c.args.content.now c.judge.new.content c.place_of-place.result c.in-Ok.ensures.same c.place_of-place.ensures,
    )

pub returns : goal.returns
returns c =
    let old : Content = c.args.content.now in
    let judged : Content = c.judge.new.content in
    let mid : Content = c.values_in.new.content in
    let new : Content = c.take_begun.new.content in
    let texts = c.args.texts.now in
    let t = c.args.token in
    let n = c.args.token.length in
    let number = c.in-Ok-Some.number in
    let run = c.in-Ok.run' in
    let start = c.in-Ok-values_in.start in
    let net = c.ends_in_slash-net.result in
    let place = c.place_of-place.result in
    let named = named-there c.args.content.now.kept.doctype _ _ _ c.tag_at-tag.ensures (sym c.in-Ok-Some.ensures ∙ c.in-Ok-Some.field-0-is) in
    let numbered = number-within old.kept.doctype _ number named in
    let same = c.in-Ok.ensures.same in
    let valued = c.in-Ok-values_in.ensures.after in
    let j = judged-for old judged (visible.Start number) run same c.in-Ok.ensures.ok c.in-Ok.ensures.holds c.in-Ok.ensures.content in
    let spent = (specified (input_at old.kept texts) (Some n)).spent in
    let values = subst (λ (z : Content). HasValues (start_of z.kept.doctype.syntax z.kept.doctype number z.currents) (specified (input_at z.kept texts) (Some n)) start mid.currents)
    same c.in-Ok-values_in.ensures.ok in
    let m : mid ≡ valued_from n spent old judged.tree mid.currents =
    subst (λ (z : Content). mid ≡ record z { kept = record z.kept { stack = after z.kept.stack (specified (input_at z.kept texts) (Some n)).spent (Some n) }; currents = mid.currents }) same valued in
    let taken = c.take_begun.ensures.taken judged
    (record { doctype = ap (λ (z : Content). z.kept.doctype) valued; tree = ap (λ (z : Content). z.tree) valued; inside = ap (λ (z : Content). z.inside) valued })
    c.in-Ok.ensures.ok (judged-place old judged place same c.place_of-place.ensures) in
    let s = subst (λ (included : Bool). IsStartTaken judged mid new place number net included start c.args.told.now.items c.take_begun.new.told.items) c.is_included.ensures
    (subst (λ (es : List Event). IsStartTaken judged mid new place number net c.is_included.result start es c.take_begun.new.told.items) c.in_default.ensures.items taken) in
    let b = begun-from n number spent net old judged mid new run start place c.args.told.now.items c.take_begun.new.told.items m s
    judged-may-stand j same numbered
    (tag-grows texts t old c.requires.kind c.requires.content c.requires.within number named)
    (values.currents.as_many ∙ j.content.lists) in
    start-tells n number spent net old s.left new judged.tree judged.currents run start mid.currents s.told b
    (λ (es : List Event). TakesIn c.args.options.now texts t old new es (Ok tt)) place c.args.told.now.items (c.args.told.now.items ++ s.told) c.take_begun.new.told.items
    c.place_of-place.ensures refl (all-from n number spent net old judged mid new run start place c.args.told.now.items c.take_begun.new.told.items m s)
    (λ st more there. start-step n number spent net old s.left new judged.tree judged.currents run start mid.currents s.told b c.args.options.now st texts more place there.some c.requires.within
    (λ outside x options h held.
    tag-start texts t old c.requires.kind c.requires.content c.requires.within number named numbered judged.tree judged.currents run j x h c.args.options.now start mid.currents net
    (ap (λ (b : Text). is_slash (how_of b)) (sym c.tag_at-tag.ensures) ∙ sym c.ends_in_slash-net.ensures) values st more there outside options held))
