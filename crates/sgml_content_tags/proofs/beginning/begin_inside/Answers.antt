use Rattle.sgml_events.specs.declared.event.Event.TheVariants as event
use Rattle.sgml_content_tags.specs.Starts.{released_told, end_told}
use Rattle.sgml_content_tags.proofs.Settling.{three-told}
use Rattle.sgml_content_tags.proofs.beginning.begin_inside.Goals as goal

pub returns-clause-told : goal.returns-clause-told
returns-clause-told c =
    three-told c.args.told.now.items (released_told c.args.inside.now c.args.begun.included) c.tell.new.told.items c.go_inside.new.told.items
    (end_told c.args.begun.element c.args.at_once) c.note.new.told.items (event.Start c.args.begun.element c.args.begun.place c.args.values)
    c.note.ensures.told c.tell.ensures.items c.go_inside.ensures.told
