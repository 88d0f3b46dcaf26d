use Rattle.sgml_conversion.proofs.Reaching.{turned-to}
use Rattle.sgml_conversion.proofs.whole.take_turn.Goals as goal

pub returns-in-Ok-append-clause-turns : goal.returns-in-Ok-append-clause-turns
returns-in-Ok-append-clause-turns g c =
    let S = g.S.Store in
    turned-to (S.files c.args.store.now) (S.left c.args.store.now) c.args.source.now c.args.parser.now c.args.events.now.items (S.left c.told_many.new.store) c.told_many.new.source c.told_many.new.parser c.told_many.new.told.items
    c.append.new.self.items c.in-Ok.paused c.in-Ok.ensures.tables c.in-Ok.ensures.turns c.in-Ok-append.ensures.items

pub returns-in-Ok-append-clause-more : goal.returns-in-Ok-append-clause-more
returns-in-Ok-append-clause-more g c = (c.told_many.new.told.items, c.in-Ok-append.ensures.items)
