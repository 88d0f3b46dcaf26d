use Rattle.std.proofs.Common.{ℕ, List, Option, ◌++◌, take}
use Rattle.sgml_events.specs.declared.event.Event.{Event}
use Rattle.sgml_conversion.specs.Writing.{StandAfter}
use Rattle.sgml_conversion.proofs.writing.take_events.Given as goal

-- those before this one were written
abbrev pub invariant-loop-event : goal.invariant-loop-event
invariant-loop-event g l =
    let O = g.O.Sink in
    (start : Option (List ℕ)) (count : ℕ) (es : List Event) → StandAfter start count (O.taken l.fn.out) (O.faults l.fn.out) l.fn.writer l.fn.idents l.dtd es
    → StandAfter start count (O.taken l.out) (O.faults l.out) l.writer l.idents l.dtd (es ++ take l.event-index l.events)
