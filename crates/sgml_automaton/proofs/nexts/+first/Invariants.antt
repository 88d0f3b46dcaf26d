use Rattle.std.proofs.Common.{◌≡◌, map, drop}
use Rattle.std.specs.Option.{option_copied}
use Rattle.sgml_model.specs.View.{view, terms}
use Rattle.sgml_automaton.specs.Position.{next_in_order, next_of_some}
use Rattle.sgml_automaton.proofs.nexts.+first.Given as goal

abbrev pub invariant-first_in_order-loop-i : goal.invariant-first_in_order-loop-i
invariant-first_in_order-loop-i l = next_in_order (terms (map view l.members)) (option_copied l.name) ≡ next_in_order (terms (map view (drop l.i l.members))) (option_copied l.name)

abbrev pub invariant-first_of_some-loop-i : goal.invariant-first_of_some-loop-i
invariant-first_of_some-loop-i l = next_of_some (terms (map view l.members)) (option_copied l.name) ≡ next_of_some (terms (map view (drop l.i l.members))) (option_copied l.name)
