use Rattle.std.proofs.Common.{◌≡◌, ◌+◌, map, drop}
use Rattle.std.specs.Option.{option_copied}
use Rattle.sgml_model.specs.View.{view, terms}
use Rattle.sgml_automaton.specs.Position.{rooms, and_rooms, bits_of, at_order, at_some, at_member, next_by}
use Rattle.sgml_automaton.proofs.nexts.+next_at.Given as goal

abbrev pub invariant-order_next-loop-i : goal.invariant-order_next-loop-i
invariant-order_next-loop-i l =
    let ms = terms (map view l.members) in let rest = terms (map view (drop l.i l.members)) in
    (next_by (at_order ms l.o l.k (bits_of l.bits)) (option_copied l.name) ≡ next_by (at_order rest l.at l.k (bits_of l.bits)) (option_copied l.name)) × (l.o + rooms ms ≡ l.at + rooms rest)

abbrev pub invariant-some_next-loop-i : goal.invariant-some_next-loop-i
invariant-some_next-loop-i l =
    let ms = terms (map view l.members) in let rest = terms (map view (drop l.i l.members)) in
    (next_by (at_some ms l.o l.k (bits_of l.bits)) (option_copied l.name) ≡ next_by (at_some rest l.at l.k (bits_of l.bits)) (option_copied l.name)) × (l.o + rooms ms ≡ l.at + rooms rest)

abbrev pub invariant-member_next-loop-i : goal.invariant-member_next-loop-i
invariant-member_next-loop-i l =
    let ms = terms (map view l.members) in let rest = terms (map view (drop l.i l.members)) in
    (next_by (at_member ms l.o l.k (bits_of l.bits)) (option_copied l.name) ≡ next_by (at_member rest l.at l.k (bits_of l.bits)) (option_copied l.name)) × (l.o + and_rooms ms ≡ l.at + and_rooms rest)
