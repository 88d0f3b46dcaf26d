use Rattle.std.proofs.Common.{◌≡◌, ◌+◌, map, drop}
use Rattle.sgml_model.specs.View.{view, terms}
use Rattle.sgml_automaton.specs.Position.{Bits, rooms}
use Rattle.sgml_automaton.specs.Alike.{shape_last}
use Rattle.sgml_automaton.proofs.same.last_begun.Given as goal

abbrev pub invariant-loop-i : goal.invariant-loop-i
invariant-loop-i l =
    let ms = terms (map view l.members) in let rest = terms (map view (drop l.i l.members)) in
    ((b : Bits) → shape_last ms l.o l.k b ≡ shape_last rest l.at l.k b) × (l.o + rooms ms ≡ l.at + rooms rest)
