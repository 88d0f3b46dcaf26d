use Rattle.std.proofs.Common.{◌≡◌, ◌+◌, map, drop}
use Rattle.sgml_model.specs.View.{view, terms}
use Rattle.sgml_automaton.specs.Position.{rooms, and_rooms}
use Rattle.sgml_automaton.proofs.room.+counted.Given as goal

abbrev pub invariant-counted_and_rooms-loop-i : goal.invariant-counted_and_rooms-loop-i
invariant-counted_and_rooms-loop-i l = and_rooms (terms (map view l.members)) ≡ l.all + and_rooms (terms (map view (drop l.i l.members)))

abbrev pub invariant-counted_rooms-loop-i : goal.invariant-counted_rooms-loop-i
invariant-counted_rooms-loop-i l = rooms (terms (map view l.members)) ≡ l.all + rooms (terms (map view (drop l.i l.members)))
