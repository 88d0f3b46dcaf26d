use Rattle.std.proofs.Common.{Ok, Err, subst, List, ℕ}
use Rattle.sgml_events.specs.declared.event.Event.{Event}
use Rattle.sgml_conversion.specs.Telling.{WritesRead}
use Rattle.sgml_conversion.proofs.Documented.{not-the-sink, fed-told, fed-failed, nothing-fed}
use Rattle.sgml_conversion.proofs.full.full_fed.Goals as goal

pub returns-in-Err-clause-converts : goal.returns-in-Err-clause-converts
returns-in-Err-clause-converts g c =
    nothing-fed c.args.limit (g.S.Store.files c.args.store.now) (g.S.Store.left c.args.store.now) c.args.id c.args.bytes.now c.args.phase c.args.parser.now (g.O.Sink.taken c.args.out.now) c.in-Err.failure (not-the-sink c.in-Err.failure (λ z. Err z) c.in-Err.ensures.sink)

pub returns-in-Err-write_read-clause-converts : goal.returns-in-Err-write_read-clause-converts
returns-in-Err-write_read-clause-converts g c =
    let S = g.S.Store in let O = g.O.Sink in
    fed-failed c.args.limit (S.files c.args.store.now) (S.left c.args.store.now) c.args.id c.args.bytes.now c.args.phase c.args.parser.now c.read_whole.new.parser c.read_whole.new.events.items c.in-Ok.read c.dtd.result.now (O.taken c.args.out.now) (O.taken c.write_read.new.out) c.in-Err-write_read.failure
    c.in-Ok.ensures.reads c.dtd.ensures
    (subst (λ (z : List Event). WritesRead c.args.bytes.now c.dtd.result.now z (O.taken c.args.out.now) (O.taken c.write_read.new.out) c.in-Ok.read (Err c.in-Err-write_read.failure)) c.deref.ensures.value c.in-Err-write_read.ensures.writes)

pub returns-clause-converts : goal.returns-clause-converts
returns-clause-converts g c =
    let S = g.S.Store in let O = g.O.Sink in
    fed-told c.args.limit (S.files c.args.store.now) (S.left c.args.store.now) c.args.id c.args.bytes.now c.args.phase c.args.parser.now c.read_whole.new.parser c.read_whole.new.events.items c.in-Ok.read c.dtd.result.now (O.taken c.args.out.now) (O.taken c.write_read.new.out) c.in-Ok-write_read.ending c.outcome_of.result
    c.in-Ok.ensures.reads c.dtd.ensures
    (subst (λ (z : List Event). WritesRead c.args.bytes.now c.dtd.result.now z (O.taken c.args.out.now) (O.taken c.write_read.new.out) c.in-Ok.read (Ok c.in-Ok-write_read.ending)) c.deref.ensures.value c.in-Ok-write_read.ensures.writes)
    c.outcome_of.ensures.outcome c.outcome_of.ensures.memory c.outcome_of.ensures.conforming
