use Rattle.std.proofs.Common.{◌≡◌, ◌+◌, map, drop}
use Rattle.std.specs.Option.{option_copied}
use Rattle.sgml_model.specs.View.{view, terms}
use Rattle.sgml_automaton.specs.Position.{rooms, and_rooms}
use Rattle.sgml_automaton.specs.Moves.{go_order_l, go_some_l, go_member_l}
use Rattle.sgml_automaton.proofs.moves.+go.Given as goal

abbrev pub invariant-go_order-loop-i : goal.invariant-go_order-loop-i
invariant-go_order-loop-i l =
    let ms = terms (map view l.members) in let rest = terms (map view (drop l.i l.members)) in
    (go_order_l ms l.o l.k l.j (option_copied l.name) l.fn.bits ≡ go_order_l rest l.at l.k l.j (option_copied l.name) l.bits) × (l.o + rooms ms ≡ l.at + rooms rest)

abbrev pub invariant-go_some-loop-i : goal.invariant-go_some-loop-i
invariant-go_some-loop-i l =
    let ms = terms (map view l.members) in let rest = terms (map view (drop l.i l.members)) in
    (go_some_l ms l.o l.k l.j (option_copied l.name) l.fn.bits ≡ go_some_l rest l.at l.k l.j (option_copied l.name) l.bits) × (l.o + rooms ms ≡ l.at + rooms rest)

abbrev pub invariant-go_member-loop-i : goal.invariant-go_member-loop-i
invariant-go_member-loop-i l =
    let ms = terms (map view l.members) in let rest = terms (map view (drop l.i l.members)) in
    (go_member_l ms l.o l.k l.j (option_copied l.name) l.fn.bits ≡ go_member_l rest l.at l.k l.j (option_copied l.name) l.bits) × (l.o + and_rooms ms ≡ l.at + and_rooms rest)
