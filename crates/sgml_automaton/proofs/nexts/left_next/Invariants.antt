use Rattle.std.proofs.Common.{◌≡◌, ◌+◌, map, drop}
use Rattle.std.specs.Option.{option_copied}
use Rattle.sgml_model.specs.View.{view, terms}
use Rattle.sgml_automaton.specs.Position.{and_rooms, bits_of, left_at, next_of_some}
use Rattle.sgml_automaton.proofs.nexts.left_next.Given as goal

abbrev pub invariant-loop-i : goal.invariant-loop-i
invariant-loop-i l =
    let ms = terms (map view l.members) in let rest = terms (map view (drop l.i l.members)) in
    (next_of_some (left_at ms l.o l.k (bits_of l.bits)) (option_copied l.name) ≡ next_of_some (left_at rest l.at l.k (bits_of l.bits)) (option_copied l.name)) × (l.o + and_rooms ms ≡ l.at + and_rooms rest)
