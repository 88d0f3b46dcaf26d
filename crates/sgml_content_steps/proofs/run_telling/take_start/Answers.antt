use Rattle.sgml_content_steps.proofs.Moved.{is-begun}
use Rattle.sgml_content_steps.proofs.run_telling.take_start.Goals as goal

pub returns-clause-inside : goal.returns-clause-inside
returns-clause-inside c =
    is-begun c.args.dtd.now c.args.element c.args.inside.now c.note-released.new.self c.open.new.self c.map_of.result c.note-released.ensures.elements c.note-released.ensures.ended
    c.note-released.ensures.room (c.map_of.ensures c.args.dtd.now c.requires.of_type c.requires.number) c.open.ensures.elements c.open.ensures.ended c.open.ensures.room
