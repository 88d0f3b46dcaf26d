use Rattle.std.specs.Prelude.{◌≡◌, length}
use Rattle.sgml_event_trials.proofs.starts.answer_each.Given as goal

abbrev pub invariant-loop-spelled : goal.invariant-loop-spelled
invariant-loop-spelled l = length l.currents ≡ length l.dtd.lists
