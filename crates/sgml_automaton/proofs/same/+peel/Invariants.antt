use Rattle.std.proofs.Common.{◌≡◌, ◌+◌, map, drop}
use Rattle.sgml_model.specs.View.{view, terms}
use Rattle.sgml_automaton.specs.Position.{rooms, bits_of}
use Rattle.sgml_automaton.specs.Alike.{shape_some, within}
use Rattle.sgml_automaton.proofs.same.+peel.Given as goal

abbrev pub invariant-peel_some-loop-i : goal.invariant-peel_some-loop-i
invariant-peel_some-loop-i l =
    let ms = terms (map view l.members) in let rest = terms (map view (drop l.i l.members)) in
    (within l.sequence (shape_some ms l.o l.k (bits_of l.bits)) ≡ within l.sequence (shape_some rest l.at l.k (bits_of l.bits))) × (l.o + rooms ms ≡ l.at + rooms rest)
