use Rattle.std.proofs.Common.{◌≡◌, ◌+◌, ◌<◌, ◌^◌, map, drop}
use Rattle.sgml_model.specs.View.{view, terms}
use Rattle.sgml_automaton.specs.Position.{bits_of}
use Rattle.sgml_automaton.specs.Alike.{equal_shapes, shape}
use Rattle.sgml_automaton.specs.Grouped.{group_shape}
use Rattle.sgml_automaton.proofs.Among.{shape_among, rooms_among}
use Rattle.sgml_automaton.proofs.same.+equal.Given as goal

abbrev pub invariant-equal_among-loop-i : goal.invariant-equal_among-loop-i
invariant-equal_among-loop-i l =
    let ms = terms (map view l.members) in let rest = terms (map view (drop l.i l.members)) in let other = shape (view l.other) l.p l.j (bits_of l.others) in
    (equal_shapes (group_shape l.fn.grouping ms l.o l.k (bits_of l.bits)) other ≡ equal_shapes (shape_among l.own l.last rest l.at l.k (bits_of l.bits)) other)
    × (l.o + rooms_among l.own ms ≡ l.at + rooms_among l.own rest)
    × (l.o + rooms_among l.own ms < 2 ^ 64)
