use Rattle.sgml_esis.proofs.Holding.{puts_unseen}
use Rattle.sgml_esis.proofs.held.put_unseen.Goals as goal

pub returns : goal.returns
returns g c = λ bytes.
    puts_unseen (g.O.Sink.taken c.args.sink.now) (g.O.Sink.faults c.args.sink.now) c.args.held.now c.clear.new.self bytes c.requires c.clear.ensures
