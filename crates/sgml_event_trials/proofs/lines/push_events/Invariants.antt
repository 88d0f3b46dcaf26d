use Rattle.std.specs.Prelude.{◌≡◌, length}
use Rattle.sgml_event_trials.proofs.lines.push_events.Given as goal

abbrev pub invariant-loop-one : goal.invariant-loop-one
invariant-loop-one l = length l.currents ≡ length l.dtd.lists
