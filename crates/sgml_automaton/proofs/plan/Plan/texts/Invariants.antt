use Rattle.std.proofs.Common.{◌≡◌, map, take}
use Rattle.sgml_automaton.specs.Plan.{tables_of, text_from}
use Rattle.sgml_automaton.proofs.plan.Plan.texts.Given as goal

abbrev pub invariant-loop-place : goal.invariant-loop-place
invariant-loop-place l = l.texts.items ≡ map (λ p. text_from (tables_of l.self) p) (take l.place-index l.self.places.items)
