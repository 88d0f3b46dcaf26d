use Rattle.std.proofs.Common.{refl}
use Rattle.sgml_content_steps.proofs.Marking.{instruction-tells, memory-tells}
use Rattle.sgml_content_steps.proofs.plain.take_instruction.Goals as goal

pub returns-in-Err : goal.returns-in-Err
returns-in-Err c =
    memory-tells c.args.texts.now c.args.token c.args.content.now c.args.told.now.items c.args.told.now.items c.requires.content refl

pub returns-in-Err-make_room : goal.returns-in-Err-make_room
returns-in-Err-make_room c =
    memory-tells c.args.texts.now c.args.token c.args.content.now c.args.told.now.items c.make_room.new.told.items c.requires.content
    c.in-Err-make_room.ensures.items

pub returns : goal.returns
returns c =
    instruction-tells c.args.texts.now c.args.token c.args.content.now c.mark_up.new.content c.args.told.now.items c.tell.new.told.items _ _
    c.requires.content c.requires.kind
    c.in-Ok.ensures c.place_of-place.ensures
    c.mark_up.ensures c.make_room.ensures.items c.tell.ensures.items
