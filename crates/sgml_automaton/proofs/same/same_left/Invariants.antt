use Rattle.std.proofs.Common.{◌≡◌, ◌+◌, map, drop}
use Rattle.sgml_model.specs.View.{view, terms}
use Rattle.sgml_automaton.specs.Position.{and_rooms, bits_of}
use Rattle.sgml_automaton.specs.Alike.{same_left}
use Rattle.sgml_automaton.proofs.same.same_left.Given as goal

abbrev pub invariant-loop-i : goal.invariant-loop-i
invariant-loop-i l =
    let ms = terms (map view l.members) in let rest = terms (map view (drop l.i l.members)) in
    (same_left ms l.o l.k (bits_of l.bits) l.j (bits_of l.others) ≡ same_left rest l.at l.k (bits_of l.bits) l.j (bits_of l.others)) × (l.o + and_rooms ms ≡ l.at + and_rooms rest)
