use Rattle.std.proofs.Common.{◌≡◌, ◌+◌, map, drop}
use Rattle.sgml_model.specs.View.{view, terms}
use Rattle.sgml_automaton.specs.Position.{Bits, and_rooms}
use Rattle.sgml_automaton.specs.Alike.{shape_member}
use Rattle.sgml_automaton.proofs.same.member_begun.Given as goal

abbrev pub invariant-loop-i : goal.invariant-loop-i
invariant-loop-i l =
    let ms = terms (map view l.members) in let rest = terms (map view (drop l.i l.members)) in
    ((b : Bits) → shape_member ms l.o l.k b ≡ shape_member rest l.at l.k b) × (l.o + and_rooms ms ≡ l.at + and_rooms rest)
