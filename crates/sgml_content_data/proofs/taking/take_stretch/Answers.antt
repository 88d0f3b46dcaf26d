use Rattle.std.proofs.Common.{refl, sym, subst}
use Rattle.std.specs.Prelude.{◌≤◌, length, List}
use Rattle.sgml_prolog_steps.specs.theory_standing.Kept.{Kept}
use Rattle.sgml_scan.specs.declared.state.ScanState.{ScanState}
use Rattle.sgml_prolog_steps.specs.Found.{rest_in}
use Rattle.sgml_content_steps.specs.Standing.{IsHeld}
use Rattle.sgml_inside.specs.records.Items.{Data}
use Rattle.sgml_events.specs.declared.event.Event.{Event}
use Rattle.sgml_content_data.specs.Taking.{IsTaken}
use Rattle.sgml_content_data.specs.Roles.{in_text, is_data_there}
use Rattle.sgml_content_data.proofs.Judged.{judged-from}
use Rattle.sgml_content_data.proofs.Stretches.{stretch-memory}
use Rattle.sgml_content_data.proofs.Starting.{begun-refused, begun-first, begun-taken, begun-content, begun-left, front-left}
use Rattle.sgml_content_data.proofs.taking.take_stretch.Goals as goal

pub returns-in-Err : goal.returns-in-Err
returns-in-Err c =
    begun-refused c.args.texts.now c.args.whole c.args.content.now c.judge.new.content c.args.told.now.items c.in-Err.why
    (judged-from c.args.content.now c.judge.new.content c.judge.ensures.holds c.judge.ensures.same c.judge.ensures.context c.judge.ensures.content)
    c.requires.some c.requires.within c.requires.data (record { refused = c.in-Err.ensures.refused; stops = c.in-Err.ensures.stops })

pub stretches-requires-clause-within : goal.stretches-requires-clause-within
stretches-requires-clause-within c =
    let from = judged-from c.args.content.now c.judge.new.content c.judge.ensures.holds c.judge.ensures.same c.judge.ensures.context c.judge.ensures.content in
    front-left (is_data_there in_text) c.args.whole c.data_there-n.result (rest_in c.judge.new.content.kept c.args.texts.now)
    (subst (λ (k : Kept). c.args.whole ≤ length (rest_in k c.args.texts.now)) (sym from.kept) c.requires.within) c.data_there-n.ensures.count

pub returns-in-Err-stretches : goal.returns-in-Err-stretches
returns-in-Err-stretches c =
    stretch-memory c.args.texts.now c.args.whole c.args.content.now c.judge.new.content c.args.told.now.items c.args.told.now.items
    (judged-from c.args.content.now c.judge.new.content c.judge.ensures.holds c.judge.ensures.same c.judge.ensures.context c.judge.ensures.content) refl

pub returns-in-Err-make_room : goal.returns-in-Err-make_room
returns-in-Err-make_room c =
    stretch-memory c.args.texts.now c.args.whole c.args.content.now c.judge.new.content c.args.told.now.items c.make_room.new.told.items
    (judged-from c.args.content.now c.judge.new.content c.judge.ensures.holds c.judge.ensures.same c.judge.ensures.context c.judge.ensures.content) c.in-Err-make_room.ensures.items

pub goes_on-requires : goal.goes_on-requires
goes_on-requires c =
    begun-content c.judge.new.content c.take_item-released.new.content c.make_room.new.told.items c.take_item-released.new.told.items c.take_item-released.result
    c.judge.ensures.content c.take_item-released.ensures.taken

pub note-requires-clause-within : goal.note-requires-clause-within
note-requires-clause-within c =
    let from = judged-from c.args.content.now c.judge.new.content c.judge.ensures.holds c.judge.ensures.same c.judge.ensures.context c.judge.ensures.content in
    begun-left c.args.texts.now c.data_there-n.result c.judge.new.content c.take_item-released.new.content c.make_room.new.told.items c.take_item-released.new.told.items
    c.take_item-released.result c.judge.ensures.content c.take_item-released.ensures.taken
    (front-left (is_data_there in_text) c.args.whole c.data_there-n.result (rest_in c.judge.new.content.kept c.args.texts.now)
    (subst (λ (k : Kept). c.args.whole ≤ length (rest_in k c.args.texts.now)) (sym from.kept) c.requires.within) c.data_there-n.ensures.count)

pub returns-then-goes_on : goal.returns-then-goes_on
returns-then-goes_on c =
    let old = c.args.content.now in
    let judged = c.judge.new.content in
    let from = judged-from old judged c.judge.ensures.holds c.judge.ensures.same c.judge.ensures.context c.judge.ensures.content in
    let state = c.is_plain-plain.ensures c.if-plain.true in
    begun-taken c.args.texts.now c.args.whole c.data_there-n.result old judged c.take_item-released.new.content c.note.new.content
    c.args.told.now.items c.take_item-released.new.told.items c.tell_data.new.told.items c.in-Ok.run' c.take_item-released.result _
    c.requires.content from c.in-Ok.ensures.ok c.requires.within c.requires.data c.if-n-gt1.true c.data_there-n.ensures.count
    c.in-Ok-stretches.ensures.all
    (subst (λ (es : List Event). IsTaken judged c.take_item-released.new.content 1 Data es c.take_item-released.new.told.items c.take_item-released.result) c.in_default.ensures.items
    c.take_item-released.ensures.taken)
    (λ x h. subst (λ (s : ScanState). IsHeld old.kept s x) state (c.scan_state.ensures.held x h))
    (c.goes_on.ensures.scanned c.if-goes_on.true) (c.goes_on.ensures.around c.if-goes_on.true)
    c.note.ensures.content c.tell_data.ensures.items

pub returns : goal.returns
returns c =
    let old = c.args.content.now in
    let judged = c.judge.new.content in
    let from = judged-from old judged c.judge.ensures.holds c.judge.ensures.same c.judge.ensures.context c.judge.ensures.content in
    begun-first c.args.texts.now c.args.whole old judged c.take_item-released.new.content
    c.args.told.now.items c.take_item-released.new.told.items c.tell_data-2.new.told.items c.in-Ok.run' c.take_item-released.result _
    c.requires.content from c.in-Ok.ensures.ok c.requires.some c.requires.within c.requires.data
    c.in-Ok-stretches.ensures.first
    (subst (λ (es : List Event). IsTaken judged c.take_item-released.new.content 1 Data es c.take_item-released.new.told.items c.take_item-released.result) c.in_default.ensures.items
    c.take_item-released.ensures.taken)
    c.tell_data-2.ensures.items
