use Rattle.std.proofs.Common.{◌≡◌, map, drop, take, option_map}
use Rattle.std.specs.Option.{option_copied}
use Rattle.sgml_model.specs.Choice.{left_in_order, left_of_some, choice}
use Rattle.sgml_model.specs.View.{view, terms}
use Rattle.sgml_model.proofs.Rows.{behind}
use Rattle.sgml_model.proofs.+take.Given as goal

abbrev pub invariant-take::left_in_order-loop-i : goal.invariant-take::left_in_order-loop-i
invariant-take::left_in_order-loop-i l =
    left_in_order (terms (map view l.members)) (option_copied l.name) ≡ left_in_order (terms (map view (drop l.i l.members))) (option_copied l.name)

abbrev pub invariant-take::left_of_some-loop-i : goal.invariant-take::left_of_some-loop-i
invariant-take::left_of_some-loop-i l =
    left_of_some (terms (map view l.members)) (option_copied l.name) ≡ left_of_some (terms (map view (drop l.i l.members))) (option_copied l.name)

abbrev pub invariant-take::choice-loop-i : goal.invariant-take::choice-loop-i
invariant-take::choice-loop-i l =
    choice (terms (map view l.members)) (option_copied l.name)
    ≡ option_map (behind (map view (take l.i l.members))) (choice (terms (map view (drop l.i l.members))) (option_copied l.name))
