use Rattle.std.proofs.Common.{◌≡◌, map, drop}
use Rattle.sgml_model.specs.View.{view, terms}
use Rattle.sgml_automaton.specs.Plan.{tables_of, planned_in_order, planned_some}
use Rattle.sgml_automaton.proofs.plan.Plan.+plan.Given as goal

abbrev pub invariant-plan_in_order-loop-i : goal.invariant-plan_in_order-loop-i
invariant-plan_in_order-loop-i l =
    planned_in_order (terms (map view l.members)) l.fn.run l.end l.after (tables_of l.fn.self)
    ≡ planned_in_order (terms (map view (drop l.i l.members))) l.run l.end l.after (tables_of l.self)

abbrev pub invariant-plan_some-loop-i : goal.invariant-plan_some-loop-i
invariant-plan_some-loop-i l =
    planned_some (terms (map view l.members)) l.end l.scope l.after (tables_of l.fn.self)
    ≡ planned_some (terms (map view (drop l.i l.members))) l.end l.scope l.after (tables_of l.self)
