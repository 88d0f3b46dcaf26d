use Rattle.std.proofs.Common.{◌≡◌, refl, sym, ap, ◌∙◌, subst, arith, Bool, false, List, ◌++◌, None, Ok, Err}
use Rattle.sgml_events.specs.declared.event.Event.{Event}
use Rattle.sgml_starts.specs.Specified.{specified}
use Rattle.sgml_starts.specs.Starts.{start_of, HasValues, IsUnvalued}
use Rattle.sgml_starts.specs.Values.{unvalued}
use Rattle.sgml_starts.specs.declared.error.StartError.TheVariants as error
use Rattle.sgml_content_steps.specs.theory_starts.Starts.{Table}
use Rattle.sgml_content_steps.specs.theory_starts.There.{input_at}
use Rattle.sgml_infer.specs.Tables.{IsNumber}
use Rattle.sgml_infer.specs.declared.visible.Visible.TheVariants as visible
use Rattle.sgml_text.specs.declared.reason.Reason.{Reason}
use Rattle.sgml_text.specs.declared.reason.Reason.TheVariants as reason
use Rattle.sgml_prolog_steps.specs.declared.stepping.Stop.TheVariants as stop
use Rattle.sgml_content_steps.specs.Content.{Content, Holds, IsContent}
use Rattle.sgml_content_steps.specs.Steps.{Takes, Tells}
use Rattle.sgml_content_steps.proofs.Standing.{judged-may-stand}
use Rattle.sgml_content_tags.specs.Starts.{IsStartTaken}
use Rattle.sgml_content_tags.proofs.Stopping.{silent, leaves-itself, stop-step}
use Rattle.sgml_content_tags.proofs.Ending.{judged-for, judged-place}
use Rattle.sgml_content_tags.proofs.Started.{valued_from, start-step, start-tells, begun-from, all-from}
use Rattle.sgml_content_tags.proofs.Refusing.{judged-steps}
use Rattle.sgml_content_tags.proofs.Emptied.{empty-number}
use Rattle.sgml_content_tags.proofs.Emptying.{empty-there, empty-undefined, empty-refuses, empty-start, passed-before, passed-from}
use Rattle.sgml_content_tags.proofs.starts.take_empty_start.Goals as goal

pub returns-in_default : goal.returns-in_default
returns-in_default c =
    let old : Content = c.args.content.now in
    silent (λ (told : List Event). Takes c.args.texts.now c.args.token old old told (Err (stop.Refused reason.Undefined))) old.kept
    c.args.told.now.items c.args.told.now.items refl
    (λ o st more there. stop-step o st c.args.texts.now more old old (stop.Refused reason.Undefined)
    (λ outside x options h held. empty-undefined c.args.texts.now c.args.token old c.requires.kind c.in_default.ensures st more there outside x h held)
    (leaves-itself old) c.requires.content)

pub judge-requires-clause-number : goal.judge-requires-clause-number
judge-requires-clause-number c = empty-number c.args.content.now c.in-Some.number c.in-Some.ensures

pub returns-in-Err : goal.returns-in-Err
returns-in-Err c =
    let old : Content = c.args.content.now in
    let new : Content = c.judge.new.content in
    silent (λ (told : List Event). Takes c.args.texts.now c.args.token old new told (Err c.in-Err.stop)) old.kept
    c.args.told.now.items c.args.told.now.items refl
    (λ o st more there. stop-step o st c.args.texts.now more old new c.in-Err.stop
    (λ outside x options h held.
    judged-steps outside x c.args.texts.now more c.args.token.length c.in-Some.number old
    (empty-there c.args.texts.now c.args.token old c.requires.kind c.in-Some.number c.in-Some.ensures st more there outside x h held)
    new c.in-Err.stop c.requires.content.tree.distinct (empty-number old c.in-Some.number c.in-Some.ensures) h c.in-Err.ensures.stops c.in-Err.ensures.refused)
    (record { holds = c.in-Err.ensures.holds; kept = ap (λ (z : Content). z.kept) c.in-Err.ensures.same; silent = refl })
    c.in-Err.ensures.content)

pub returns-in-Err-make_room : goal.returns-in-Err-make_room
returns-in-Err-make_room c =
    let old : Content = c.args.content.now in
    let new : Content = c.judge.new.content in
    silent (λ (told : List Event). Takes c.args.texts.now c.args.token old new told (Err stop.Memory)) old.kept
    c.args.told.now.items c.make_room.new.told.items c.in-Err-make_room.ensures.items
    (λ o st more there. stop-step o st c.args.texts.now more old new stop.Memory (λ outside x options h held. tt)
    (record { holds = c.in-Ok.ensures.holds; kept = ap (λ (z : Content). z.kept) c.in-Ok.ensures.same; silent = refl }) c.in-Ok.ensures.content)

pub values_of-requires-clause-number : goal.values_of-requires-clause-number
values_of-requires-clause-number c =
    subst (λ (z : Content). IsNumber z.kept.doctype c.in-Some.number) (sym c.in-Ok.ensures.same) (empty-number c.args.content.now c.in-Some.number c.in-Some.ensures)

pub returns-in-Err-Refused : goal.returns-in-Err-Refused
returns-in-Err-Refused c =
    let old : Content = c.args.content.now in
    let judged : Content = c.judge.new.content in
    let new : Content = c.values_of.new.content in
    let same = c.in-Ok.ensures.same in
    let left = c.in-Err-Refused.ensures.left in
    let numbered = empty-number old c.in-Some.number c.in-Some.ensures in
    let none = subst (λ (z : Content). IsUnvalued (unvalued (start_of z.kept.doctype.syntax z.kept.doctype c.in-Some.number z.currents) (specified (input_at z.kept c.args.texts.now) None))
    (error.Refused c.in-Err-Refused.reason)) same (rw c.in-Err-Refused.field-0-is at c.in-Err-Refused.ensures.err) in
    subst (λ (r : Reason). Tells c.args.texts.now c.args.token old new c.args.told.now.items c.make_room.new.told.items (Err (stop.Refused r))) (sym c.in-Err-Refused.reason-is)
    (silent (λ (told : List Event). Takes c.args.texts.now c.args.token old new told (Err (stop.Refused c.in-Err-Refused.reason))) old.kept
    c.args.told.now.items c.make_room.new.told.items c.in_default-make_room.ensures.items
    (λ o st more there. stop-step o st c.args.texts.now more old new (stop.Refused c.in-Err-Refused.reason)
    (λ outside x options h held.
    empty-refuses c.args.texts.now c.args.token old c.requires.kind c.in-Some.number c.in-Some.ensures numbered judged.tree judged.currents c.in-Ok.run'
    (judged-for old judged (visible.Start c.in-Some.number) c.in-Ok.run' same c.in-Ok.ensures.ok c.in-Ok.ensures.holds c.in-Ok.ensures.content)
    judged-may-stand c.in-Err-Refused.reason none st more there outside x h held)
    (record {
      holds = λ x h. subst (λ (z : Content). Holds z x) (sym left) (c.in-Ok.ensures.holds x h);
      kept = ap (λ (z : Content). z.kept) left ∙ ap (λ (z : Content). z.kept) same;
      silent = refl;
    })
    (subst IsContent (sym left) c.in-Ok.ensures.content)))

pub returns-in-Err-Memory : goal.returns-in-Err-Memory
returns-in-Err-Memory c =
    let old : Content = c.args.content.now in
    let new : Content = c.values_of.new.content in
    let left = c.in-Err-Memory.ensures.left in
    silent (λ (told : List Event). Takes c.args.texts.now c.args.token old new told (Err stop.Memory)) old.kept
    c.args.told.now.items c.make_room.new.told.items c.in_default-make_room.ensures.items
    (λ o st more there. stop-step o st c.args.texts.now more old new stop.Memory (λ outside x options h held. tt)
    (record {
      holds = λ x h. subst (λ (z : Content). Holds z x) (sym left) (c.in-Ok.ensures.holds x h);
      kept = ap (λ (z : Content). z.kept) left ∙ ap (λ (z : Content). z.kept) c.in-Ok.ensures.same;
      silent = refl;
    })
    (subst IsContent (sym left) c.in-Ok.ensures.content))

pub take_begun-requires-clause-number : goal.take_begun-requires-clause-number
take_begun-requires-clause-number c =
    let before = passed-before c.judge.new.content c.values_of.new.content c.pass.new.content c.args.token.length 0 c.in-Ok-values_of.ensures.after c.pass.ensures in
    subst (λ (d : _). IsNumber d c.in-Some.number) (sym before.doctype)
    (subst (λ (z : Content). IsNumber z.kept.doctype c.in-Some.number) (sym c.in-Ok.ensures.same) (empty-number c.args.content.now c.in-Some.number c.in-Some.ensures))

pub take_begun-requires-clause-judged : goal.take_begun-requires-clause-judged
take_begun-requires-clause-judged c = (
  c.judge.new.content,
  passed-before c.judge.new.content c.values_of.new.content c.pass.new.content c.args.token.length 0 c.in-Ok-values_of.ensures.after c.pass.ensures,
  c.in-Ok.ensures.ok,
  judged-place c.args.content.now c.judge.new.content c.place_of-place.result c.in-Ok.ensures.same c.place_of-place.ensures,
)

pub returns : goal.returns
returns c =
    let old : Content = c.args.content.now in
    let judged : Content = c.judge.new.content in
    let w : Content = c.values_of.new.content in
    let mid : Content = c.pass.new.content in
    let new : Content = c.take_begun.new.content in
    let texts = c.args.texts.now in
    let t = c.args.token in
    let n = c.args.token.length in
    let number = c.in-Some.number in
    let run = c.in-Ok.run' in
    let start = c.in-Ok-values_of.start in
    let place = c.place_of-place.result in
    let found = c.in-Some.ensures in
    let numbered = empty-number old number found in
    let same = c.in-Ok.ensures.same in
    let j = judged-for old judged (visible.Start number) run same c.in-Ok.ensures.ok c.in-Ok.ensures.holds c.in-Ok.ensures.content in
    let spent = old.kept.stack.spent in
    let table : w.currents ≡ mid.currents = sym (ap (λ (z : Content). z.currents) c.pass.ensures) in
    let values = subst (λ (after : Table). HasValues (start_of old.kept.doctype.syntax old.kept.doctype number judged.currents) (specified (input_at old.kept texts) None) start after) table
    (subst (λ (z : Content). HasValues (start_of z.kept.doctype.syntax z.kept.doctype number z.currents) (specified (input_at z.kept texts) None) start w.currents)
    same c.in-Ok-values_of.ensures.ok) in
    let m : mid ≡ valued_from n spent old judged.tree mid.currents = passed-from old judged w mid n 0 same c.in-Ok-values_of.ensures.after c.pass.ensures in
    let taken = c.take_begun.ensures.taken judged (passed-before judged w mid n 0 c.in-Ok-values_of.ensures.after c.pass.ensures)
    c.in-Ok.ensures.ok (judged-place old judged place same c.place_of-place.ensures) in
    let s = subst (λ (included : Bool). IsStartTaken judged mid new place number false included start c.args.told.now.items c.take_begun.new.told.items) c.is_included.ensures
    (subst (λ (es : List Event). IsStartTaken judged mid new place number false c.is_included.result start es c.take_begun.new.told.items) c.in_default-make_room.ensures.items taken) in
    let b = begun-from n number spent false old judged mid new run start place c.args.told.now.items c.take_begun.new.told.items m s
    judged-may-stand j same numbered (omega arith) (values.currents.as_many ∙ j.content.lists) in
    start-tells n number spent false old s.left new judged.tree judged.currents run start mid.currents s.told b
    (λ (es : List Event). Takes texts t old new es (Ok tt)) place c.args.told.now.items (c.args.told.now.items ++ s.told) c.take_begun.new.told.items
    c.place_of-place.ensures refl (all-from n number spent false old judged mid new run start place c.args.told.now.items c.take_begun.new.told.items m s)
    (λ o st more there. start-step n number spent false old s.left new judged.tree judged.currents run start mid.currents s.told b o st texts more place there.some c.requires.within
    (λ outside x options h held.
    empty-start texts t old c.requires.kind number found numbered judged.tree judged.currents run j start mid.currents values st more there outside x h held))
