use Rattle.sgml_automaton.specs.Automaton.{IsStateOf}
use Rattle.sgml_model_trials.proofs.automata.walk.Given as goal

abbrev pub invariant-loop-letter : goal.invariant-loop-letter
invariant-loop-letter l = IsStateOf l.automaton l.state
