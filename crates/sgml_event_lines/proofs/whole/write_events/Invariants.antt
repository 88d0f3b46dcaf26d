use Rattle.std.proofs.Common.{take}
use Rattle.sgml_event_lines.specs.Standing.{StandsAfter}
use Rattle.sgml_event_lines.proofs.whole.write_events.Given as goal

-- those before this one were written
abbrev pub invariant-loop-event : goal.invariant-loop-event
invariant-loop-event g l =
    let O = g.O.Sink in
    StandsAfter (O.taken l.fn.sink) (O.faults l.fn.sink) (O.taken l.sink) (O.faults l.sink) l.writer l.dtd (take l.event-index l.events)
