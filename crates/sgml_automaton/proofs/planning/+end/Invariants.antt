use Rattle.std.proofs.Common.{◌≡◌, map, drop}
use Rattle.sgml_model.specs.View.{view, terms}
use Rattle.sgml_automaton.specs.Plan.{ends_of}
use Rattle.sgml_automaton.proofs.planning.+end.Given as goal

abbrev pub invariant-end_among-loop-i : goal.invariant-end_among-loop-i
invariant-end_among-loop-i l = ends_of (terms (map view l.members)) 0 ≡ ends_of (terms (map view (drop l.i l.members))) l.end
