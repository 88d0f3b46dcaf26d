use Rattle.std.proofs.Common.{ℕ, ◌<◌, ◌≤◌}
use Rattle.sgml_automaton.specs.Position.{room}
use Rattle.sgml_infer.specs.Tables.{model_at}
use Rattle.sgml_infer.proofs.beginning.most_room.Given as goal

abbrev pub invariant-loop-element : goal.invariant-loop-element
invariant-loop-element l = (i : ℕ) → i < l.element → room (model_at l.dtd i) ≤ l.most
