use Rattle.sgml_content_tags.proofs.Settling.{told-in}
use Rattle.sgml_content_tags.proofs.beginning.begin.Goals as goal

pub returns-clause-told : goal.returns-clause-told
returns-clause-told c =
    told-in c.args.told.now.items c.begin_inside.new.told.items _ c.args.content.now c.args.begun.place c.args.begun.element c.args.begun.included
    c.either-at_once.result c.is_void-void.result c.args.start.conref c.args.start.values c.content.view_is
    c.begin_inside.ensures.told c.either-at_once.ensures c.is_void-void.ensures
