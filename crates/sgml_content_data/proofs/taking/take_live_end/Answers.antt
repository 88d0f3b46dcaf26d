use Rattle.std.specs.Prelude.{true, List}
use Rattle.std.proofs.Common.{subst, ◌∙◌}
use Rattle.sgml_inside.specs.records.Items.{RecordEnd}
use Rattle.sgml_events.specs.declared.event.Event.{Event}
use Rattle.sgml_infer.specs.theory_reading.Pieces.{Re}
use Rattle.sgml_prolog_steps.specs.theory_standing.Held.{state_of}
use Rattle.sgml_content_data.specs.Taking.{IsTaken}
use Rattle.sgml_content_data.proofs.Roles.{live-held}
use Rattle.sgml_content_data.proofs.Judged.{end-text, judged-from, memory-piece, refused-piece}
use Rattle.sgml_content_data.proofs.Data.{end-noted, end-taken}
use Rattle.sgml_content_data.proofs.taking.take_live_end.Goals as goal

pub returns-in-Err : goal.returns-in-Err
returns-in-Err c =
    refused-piece c.args.texts.now c.args.n (Re true) c.args.content.now c.judge.new.content c.args.told.now.items c.in-Err.why
    (judged-from c.args.content.now c.judge.new.content c.judge.ensures.holds c.judge.ensures.same c.judge.ensures.context c.judge.ensures.content)
    end-text (λ x h. end-noted (state_of x) true (live-held c.args.content.now x h ∙ c.requires.live))
    (record { refused = c.in-Err.ensures.refused; stops = c.in-Err.ensures.stops })

pub returns-in-Err-make_room : goal.returns-in-Err-make_room
returns-in-Err-make_room c =
    memory-piece c.args.texts.now c.args.n (Re true) c.args.content.now c.judge.new.content c.args.told.now.items c.make_room.new.told.items
    (judged-from c.args.content.now c.judge.new.content c.judge.ensures.holds c.judge.ensures.same c.judge.ensures.context c.judge.ensures.content)
    c.make_room.ensures.items

pub returns : goal.returns
returns c =
    let from = judged-from c.args.content.now c.judge.new.content c.judge.ensures.holds c.judge.ensures.same c.judge.ensures.context c.judge.ensures.content in
    end-taken c.args.texts.now c.args.content.now c.judge.new.content c.take_item-released.new.content c.args.told.now.items c.take_item-released.new.told.items
    c.put_out.new.told.items c.in-Ok.run' c.args.n c.take_item-released.result c.requires.content from c.in-Ok.ensures.ok c.requires.some c.requires.within c.requires.live
    (subst (λ (es : List Event). IsTaken c.judge.new.content c.take_item-released.new.content c.args.n RecordEnd es c.take_item-released.new.told.items c.take_item-released.result)
    c.make_room.ensures.items c.take_item-released.ensures.taken) c.put_out.ensures.items
