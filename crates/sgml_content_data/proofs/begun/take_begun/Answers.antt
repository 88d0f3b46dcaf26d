use Rattle.std.specs.Prelude.{◌<◌, ◌^◌, ◌+◌, List, None}
use Rattle.std.proofs.Common.{refl, sym, subst, arith}
use Rattle.sgml_entity.specs.Stack.{offset_of}
use Rattle.sgml_inside.specs.records.Items.{Data}
use Rattle.sgml_events.specs.declared.event.Event.{Event}
use Rattle.sgml_prolog_steps.specs.theory_standing.Kept.{Kept}
use Rattle.sgml_content_data.specs.Taking.{IsTaken}
use Rattle.sgml_content_data.proofs.Judged.{judged-from}
use Rattle.sgml_content_data.proofs.Starting.{begun-content}
use Rattle.sgml_content_data.proofs.Alike.{from-left, alone-content}
use Rattle.sgml_content_data.proofs.Leading.{begun-on, begun-one, begun-fits}
use Rattle.sgml_content_data.proofs.begun.take_begun.Goals as goal

pub returns-in-Err-clause-takes : goal.returns-in-Err-clause-takes
returns-in-Err-clause-takes c =
    (from-left c.args.content.now c.judge.new.content (judged-from c.args.content.now c.judge.new.content c.judge.ensures.holds c.judge.ensures.same c.judge.ensures.context c.judge.ensures.content), refl)

pub returns-in-Err-make_room-clause-takes : goal.returns-in-Err-make_room-clause-takes
returns-in-Err-make_room-clause-takes c =
    (from-left c.args.content.now c.judge.new.content (judged-from c.args.content.now c.judge.new.content c.judge.ensures.holds c.judge.ensures.same c.judge.ensures.context c.judge.ensures.content), c.make_room.ensures.items)

pub take_item-released-requires-clause-fits : goal.take_item-released-requires-clause-fits
take_item-released-requires-clause-fits c =
    let from = judged-from c.args.content.now c.judge.new.content c.judge.ensures.holds c.judge.ensures.same c.judge.ensures.context c.judge.ensures.content in
    let some = c.requires.some in
    let fits = c.requires.fits in
    subst (λ (k : Kept). offset_of k.stack.places + 1 < 2 ^ 64) (sym from.kept) (omega (arith, some, fits))

pub goes_on-requires : goal.goes_on-requires
goes_on-requires c =
    begun-content c.judge.new.content c.take_item-released.new.content c.make_room.new.told.items c.take_item-released.new.told.items c.take_item-released.result
    c.judge.ensures.content c.take_item-released.ensures.taken

pub pass_next-requires-clause-fits : goal.pass_next-requires-clause-fits
pass_next-requires-clause-fits c =
    let from = judged-from c.args.content.now c.judge.new.content c.judge.ensures.holds c.judge.ensures.same c.judge.ensures.context c.judge.ensures.content in
    begun-fits c.args.n c.judge.new.content c.take_item-released.new.content c.make_room.new.told.items c.take_item-released.new.told.items c.take_item-released.result
    c.take_item-released.ensures.taken c.requires.some
    (subst (λ (k : Kept). offset_of k.stack.places + c.args.n < 2 ^ 64) (sym from.kept) c.requires.fits)

pub returns-then-goes_on-clause-takes : goal.returns-then-goes_on-clause-takes
returns-then-goes_on-clause-takes c =
    let old = c.args.content.now in
    let judged = c.judge.new.content in
    let from = judged-from old judged c.judge.ensures.holds c.judge.ensures.same c.judge.ensures.context c.judge.ensures.content in
    begun-on c.args.texts.now c.args.n old judged c.take_item-released.new.content c.pass_next.new.content
    c.args.told.now.items c.take_item-released.new.told.items c.tell_data.new.told.items c.in-Ok.run' c.take_item-released.result c.args.all
    c.requires.content from c.in-Ok.ensures.ok c.requires.within c.requires.begins c.if-n-gt1.true c.requires.data c.requires.all
    (subst (λ (es : List Event). IsTaken judged c.take_item-released.new.content 1 Data es c.take_item-released.new.told.items c.take_item-released.result) c.make_room.ensures.items
    c.take_item-released.ensures.taken)
    (c.goes_on.ensures.scanned c.if-goes_on.true) (c.goes_on.ensures.around c.if-goes_on.true)
    c.pass_next.ensures c.tell_data.ensures.items

pub returns-then-goes_on-clause-content : goal.returns-then-goes_on-clause-content
returns-then-goes_on-clause-content c =
    alone-content c.take_item-released.new.content c.pass_next.new.content _ None
    (begun-content c.judge.new.content c.take_item-released.new.content c.make_room.new.told.items c.take_item-released.new.told.items c.take_item-released.result
    c.judge.ensures.content c.take_item-released.ensures.taken) c.pass_next.ensures

pub returns-clause-takes : goal.returns-clause-takes
returns-clause-takes c =
    let old = c.args.content.now in
    let judged = c.judge.new.content in
    let from = judged-from old judged c.judge.ensures.holds c.judge.ensures.same c.judge.ensures.context c.judge.ensures.content in
    begun-one c.args.texts.now c.args.n old judged c.take_item-released.new.content
    c.args.told.now.items c.take_item-released.new.told.items c.tell_data-2.new.told.items c.in-Ok.run' c.take_item-released.result c.args.first
    c.requires.content from c.in-Ok.ensures.ok c.requires.some c.requires.within c.requires.begins c.requires.first
    (subst (λ (es : List Event). IsTaken judged c.take_item-released.new.content 1 Data es c.take_item-released.new.told.items c.take_item-released.result) c.make_room.ensures.items
    c.take_item-released.ensures.taken)
    c.tell_data-2.ensures.items

pub returns-clause-content : goal.returns-clause-content
returns-clause-content c =
    begun-content c.judge.new.content c.take_item-released.new.content c.make_room.new.told.items c.take_item-released.new.told.items c.take_item-released.result
    c.judge.ensures.content c.take_item-released.ensures.taken
