use Rattle.sgml_cli.proofs.Exits.{counted-so, count-store, count-memory}
use Rattle.sgml_cli.proofs.running.run_count.Goals as goal

pub returns-in-Ok-clause-answers : goal.returns-in-Ok-clause-answers
returns-in-Ok-clause-answers g c =
    counted-so c.args.limit (g.S.Store.files c.args.store.now) c.args.command.now c.args.settings c.in-Ok.counted (g.O.Sink.taken c.args.out.now) (g.O.Sink.taken c.tell.new.out)
    (record { before = g.E.Sink.taken c.args.log.now; now = g.E.Sink.taken c.tell.new.log }) _ _ _ _ c.tell.result c.requires.counting c.in-Ok.ensures.counts c.tell.ensures

pub returns-in-Err-Store-clause-answers : goal.returns-in-Err-Store-clause-answers
returns-in-Err-Store-clause-answers g c =
    count-store c.args.limit (g.S.Store.files c.args.store.now) c.args.command.now c.args.settings (g.O.Sink.taken c.args.out.now) (record { before = g.E.Sink.taken c.args.log.now; now = g.E.Sink.taken c.finish.new.log }) _ _ c.finish.result
    c.finish.ensures

pub returns-in-Err-Memory-clause-answers : goal.returns-in-Err-Memory-clause-answers
returns-in-Err-Memory-clause-answers g c =
    count-memory c.args.limit (g.S.Store.files c.args.store.now) c.args.command.now c.args.settings (g.O.Sink.taken c.args.out.now)
    (record { before = g.E.Sink.taken c.args.log.now; now = g.E.Sink.taken c.finish-in-Err-Memory.new.log }) _ _ c.finish-in-Err-Memory.result c.finish-in-Err-Memory.ensures
