use Rattle.std.specs.Prelude.{true, List}
use Rattle.std.proofs.Common.{ap, subst, ◌∙◌}
use Rattle.sgml_inside.specs.records.Items.{RecordEnd}
use Rattle.sgml_inside.specs.records.Facts.{takes_end}
use Rattle.sgml_events.specs.declared.event.Event.{Event}
use Rattle.sgml_infer.specs.theory_reading.Pieces.{Re}
use Rattle.sgml_inside.specs.Inside.{facts_of}
use Rattle.sgml_content_steps.specs.Content.{Content}
use Rattle.sgml_content_data.specs.Taking.{IsTaken}
use Rattle.sgml_content_data.specs.Steps.{taken}
use Rattle.sgml_content_data.proofs.Judged.{memory-piece}
use Rattle.sgml_content_data.proofs.From.{plain-from, piece-from}
use Rattle.sgml_content_data.proofs.Data.{end-taken}
use Rattle.sgml_content_data.proofs.plain.take_plain_end.Goals as goal

pub take_live_end-requires-clause-live : goal.take_live_end-requires-clause-live
take_live_end-requires-clause-live c = ap (λ (z : Content). takes_end (facts_of z.inside.elements)) c.judge_plain.ensures.same ∙ c.requires.live

pub returns-in-Err : goal.returns-in-Err
returns-in-Err c =
    let p = plain-from c.args.content.now c.judge_plain.new.content c.judge_plain.ensures.holds c.judge_plain.ensures.same c.judge_plain.ensures.context c.judge_plain.ensures.content in
    memory-piece c.args.texts.now c.args.n (Re true) c.args.content.now c.judge_plain.new.content c.args.told.now.items c.make_room.new.told.items p.from
    c.make_room.ensures.items

pub returns-in_default : goal.returns-in_default
returns-in_default c =
    let p = plain-from c.args.content.now c.judge_plain.new.content c.judge_plain.ensures.holds c.judge_plain.ensures.same c.judge_plain.ensures.context c.judge_plain.ensures.content in
    end-taken c.args.texts.now c.args.content.now c.judge_plain.new.content c.take_item-released.new.content c.args.told.now.items c.take_item-released.new.told.items
    c.put_out.new.told.items c.in-Some.run' c.args.n c.take_item-released.result c.requires.content p.from c.in-Some.ensures.run c.requires.some c.requires.within c.requires.live
    (subst (λ (es : List Event). IsTaken c.judge_plain.new.content c.take_item-released.new.content c.args.n RecordEnd es c.take_item-released.new.told.items c.take_item-released.result)
    c.make_room.ensures.items c.take_item-released.ensures.taken) c.put_out.ensures.items

pub returns-in-None : goal.returns-in-None
returns-in-None c =
    let p = plain-from c.args.content.now c.judge_plain.new.content c.judge_plain.ensures.holds c.judge_plain.ensures.same c.judge_plain.ensures.context c.judge_plain.ensures.content in
    piece-from c.args.texts.now c.args.n (Re true) c.args.content.now c.judge_plain.new.content c.take_live_end.new.content c.args.told.now.items c.take_live_end.new.told.items
    (taken c.take_live_end.result c.take_live_end.new.stop) p c.take_live_end.ensures
