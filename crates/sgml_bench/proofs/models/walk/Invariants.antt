use Rattle.sgml_automaton.specs.Automaton.{IsStateOf}
use Rattle.sgml_bench.proofs.models.walk.Given as goal

abbrev pub invariant-loop-name : goal.invariant-loop-name
invariant-loop-name l = IsStateOf l.automaton l.state
