use Rattle.std.proofs.Common.{sym, take}
use Rattle.sgml_event_lines.proofs.Ending.{stands_further, stands_at_end, faulted_at}
use Rattle.sgml_event_lines.proofs.whole.write_events.Goals as goal

pub returns-in-Err : goal.returns-in-Err
returns-in-Err g c =
    let O = g.O.Sink in let i = c.loop-event.event-index in let start = O.taken c.args.sink.now in let count = O.faults c.args.sink.now in
    faulted_at start count _ _ c.write.new.self c.args.dtd.now c.args.events.now i c.event-item.result c.args.conforming c.loop-event-test.true c.event-item.is (sym c.in-Err.ensures.fault)
    (c.write.ensures.goes_on start count (take i c.args.events.now) c.loop-event.invariant)

pub loop-event-preserved : goal.loop-event-preserved
loop-event-preserved g c =
    let O = g.O.Sink in let i = c.loop-event.event-index in let start = O.taken c.args.sink.now in let count = O.faults c.args.sink.now in
    stands_further start count _ _ c.write.new.self c.args.dtd.now c.args.events.now i c.event-item.result c.loop-event-test.true c.event-item.is
    (c.write.ensures.goes_on start count (take i c.args.events.now) c.loop-event.invariant)

pub returns-in-Ok-finish : goal.returns-in-Ok-finish
returns-in-Ok-finish g c =
    let O = g.O.Sink in let start = O.taken c.args.sink.now in let count = O.faults c.args.sink.now in
    c.in-Ok-finish.ensures.bytes start count c.args.dtd.now c.args.events.now
    (stands_at_end start count _ _ c.loop-event.writer c.args.dtd.now c.args.events.now c.loop-event.event-index c.loop-event-test.false c.loop-event.invariant)

pub returns : goal.returns
returns g c =
    let O = g.O.Sink in let start = O.taken c.args.sink.now in let count = O.faults c.args.sink.now in
    let s = stands_at_end start count _ _ c.loop-event.writer c.args.dtd.now c.args.events.now c.loop-event.event-index c.loop-event-test.false c.loop-event.invariant in
    (c.in-Err-finish.ensures.bytes start count c.args.dtd.now c.args.events.now s, (c.in-Err-finish.ensures.cause start count c.args.dtd.now c.args.events.now s).failed)
