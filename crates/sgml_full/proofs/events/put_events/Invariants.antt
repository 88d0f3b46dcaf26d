use Rattle.std.proofs.Common.{◌≡◌, ◌++◌, List, ℕ, drop}
use Rattle.sgml_esis.specs.Writing.{Puts}
use Rattle.sgml_full.specs.declared.inside.Inside.TheVariants as inside
use Rattle.sgml_full.specs.Events.{spelled_events}
use Rattle.sgml_full.proofs.events.put_events.Given as goal

abbrev pub invariant-loop-event : goal.invariant-loop-event
invariant-loop-event g l =
    let O = g.O.Sink in
    (done : List ℕ) × (spelled_events l.dtd inside.Mixed l.events ≡ done ++ spelled_events l.dtd l.inside (drop l.event-index l.events)) × Puts (O.taken l.fn.sink) (O.faults l.fn.sink) l.fn.held (O.taken l.sink) (O.faults l.sink) l.held done
