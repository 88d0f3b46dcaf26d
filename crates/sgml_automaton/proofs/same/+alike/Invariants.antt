use Rattle.std.proofs.Common.{◌≡◌, ◌+◌, map, drop}
use Rattle.sgml_model.specs.View.{view, terms}
use Rattle.sgml_automaton.specs.Position.{rooms, and_rooms, bits_of}
use Rattle.sgml_automaton.specs.Alike.{alike_order, alike_some, alike_member}
use Rattle.sgml_automaton.proofs.same.+alike.Given as goal

abbrev pub invariant-alike_order-loop-i : goal.invariant-alike_order-loop-i
invariant-alike_order-loop-i l =
    let ms = terms (map view l.members) in let rest = terms (map view (drop l.i l.members)) in
    (alike_order ms l.o l.k (bits_of l.bits) l.j (bits_of l.others) ≡ alike_order rest l.at l.k (bits_of l.bits) l.j (bits_of l.others)) × (l.o + rooms ms ≡ l.at + rooms rest)

abbrev pub invariant-alike_some-loop-i : goal.invariant-alike_some-loop-i
invariant-alike_some-loop-i l =
    let ms = terms (map view l.members) in let rest = terms (map view (drop l.i l.members)) in
    (alike_some ms l.o l.k (bits_of l.bits) l.j (bits_of l.others) ≡ alike_some rest l.at l.k (bits_of l.bits) l.j (bits_of l.others)) × (l.o + rooms ms ≡ l.at + rooms rest)

abbrev pub invariant-alike_member-loop-i : goal.invariant-alike_member-loop-i
invariant-alike_member-loop-i l =
    let ms = terms (map view l.members) in let rest = terms (map view (drop l.i l.members)) in
    (alike_member ms l.o l.k (bits_of l.bits) l.j (bits_of l.others) ≡ alike_member rest l.at l.k (bits_of l.bits) l.j (bits_of l.others)) × (l.o + and_rooms ms ≡ l.at + and_rooms rest)
