use Rattle.std.proofs.Common.{◌≡◌, ◌+◌, map, drop}
use Rattle.sgml_model.specs.View.{view, terms}
use Rattle.sgml_automaton.specs.Position.{and_rooms, bits_of, left_at}
use Rattle.sgml_automaton.specs.Alike.{no_terms}
use Rattle.sgml_automaton.proofs.same.none_left.Given as goal

abbrev pub invariant-loop-i : goal.invariant-loop-i
invariant-loop-i l =
    let ms = terms (map view l.members) in let rest = terms (map view (drop l.i l.members)) in
    (no_terms (left_at ms l.o l.k (bits_of l.bits)) ≡ no_terms (left_at rest l.at l.k (bits_of l.bits))) × (l.o + and_rooms ms ≡ l.at + and_rooms rest)
