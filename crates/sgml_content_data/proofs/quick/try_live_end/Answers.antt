use Rattle.std.specs.Prelude.{List}
use Rattle.std.proofs.Common.{refl, subst}
use Rattle.sgml_inside.specs.records.Items.{RecordEnd}
use Rattle.sgml_events.specs.declared.event.Event.{Event}
use Rattle.sgml_content_data.specs.Taking.{IsTaken}
use Rattle.sgml_content_data.proofs.From.{plain-from}
use Rattle.sgml_content_data.proofs.Data.{end-taken}
use Rattle.sgml_content_data.proofs.Alike.{taken-stays, taken-content, judged-stays, judged-left}
use Rattle.sgml_content_data.proofs.quick.try_live_end.Goals as goal

pub returns-in-Err-clause-takes : goal.returns-in-Err-clause-takes
returns-in-Err-clause-takes c =
    let p = plain-from c.args.content.now c.judge_plain.new.content c.judge_plain.ensures.holds c.judge_plain.ensures.same c.judge_plain.ensures.context c.judge_plain.ensures.content in
    (judged-left c.args.content.now c.judge_plain.new.content c.judge_plain.new.content p refl, c.make_room.ensures.items)

pub returns-in-Err-clause-alike : goal.returns-in-Err-clause-alike
returns-in-Err-clause-alike c =
    let p = plain-from c.args.content.now c.judge_plain.new.content c.judge_plain.ensures.holds c.judge_plain.ensures.same c.judge_plain.ensures.context c.judge_plain.ensures.content in
    judged-stays c.args.content.now c.judge_plain.new.content c.judge_plain.new.content p refl

pub returns-in_default-clause-takes : goal.returns-in_default-clause-takes
returns-in_default-clause-takes c =
    let p = plain-from c.args.content.now c.judge_plain.new.content c.judge_plain.ensures.holds c.judge_plain.ensures.same c.judge_plain.ensures.context c.judge_plain.ensures.content in
    end-taken c.args.texts.now c.args.content.now c.judge_plain.new.content c.take_item-released.new.content c.args.told.now.items c.take_item-released.new.told.items
    c.put_out.new.told.items c.in-Some.run' c.args.n c.take_item-released.result c.requires.content p.from c.in-Some.ensures.run c.requires.some c.requires.within c.requires.live
    (subst (λ (es : List Event). IsTaken c.judge_plain.new.content c.take_item-released.new.content c.args.n RecordEnd es c.take_item-released.new.told.items c.take_item-released.result)
    c.make_room.ensures.items c.take_item-released.ensures.taken) c.put_out.ensures.items

pub returns-in_default-clause-alike : goal.returns-in_default-clause-alike
returns-in_default-clause-alike c =
    let p = plain-from c.args.content.now c.judge_plain.new.content c.judge_plain.ensures.holds c.judge_plain.ensures.same c.judge_plain.ensures.context c.judge_plain.ensures.content in
    taken-stays c.args.content.now c.judge_plain.new.content c.take_item-released.new.content c.args.n _ c.make_room.new.told.items c.take_item-released.new.told.items
    c.take_item-released.result c.in-Some.run' p.from c.judge_plain.ensures.same c.in-Some.ensures.run c.in-Some.ensures.plain c.take_item-released.ensures.taken

pub returns-in_default-clause-content : goal.returns-in_default-clause-content
returns-in_default-clause-content c =
    taken-content c.judge_plain.new.content c.take_item-released.new.content c.args.n _ c.make_room.new.told.items c.take_item-released.new.told.items
    c.take_item-released.result c.judge_plain.ensures.content c.take_item-released.ensures.taken

pub returns-in-None-clause-takes : goal.returns-in-None-clause-takes
returns-in-None-clause-takes c =
    let p = plain-from c.args.content.now c.judge_plain.new.content c.judge_plain.ensures.holds c.judge_plain.ensures.same c.judge_plain.ensures.context c.judge_plain.ensures.content in
    (judged-left c.args.content.now c.judge_plain.new.content c.judge_plain.new.content p refl, refl)

pub returns-in-None-clause-alike : goal.returns-in-None-clause-alike
returns-in-None-clause-alike c =
    let p = plain-from c.args.content.now c.judge_plain.new.content c.judge_plain.ensures.holds c.judge_plain.ensures.same c.judge_plain.ensures.context c.judge_plain.ensures.content in
    judged-stays c.args.content.now c.judge_plain.new.content c.judge_plain.new.content p refl
