use Rattle.std.proofs.Common.{◌≡◌, ◌+◌, ◌≤◌, ◌++◌, length, vec_len}
use Rattle.std.specs.Vec.{vec_capacity}
use Rattle.sgml_dtd_elements.specs.Naming.{places_in}
use Rattle.sgml_dtd_elements.proofs.places.push_places.Given as goal

abbrev pub invariant-names : goal.invariant-names
invariant-names l = record {
  room : vec_len l.places + length l.rest ≤ vec_capacity l.places;
  count : l.at + length l.rest ≡ length l.names;
  items : l.places.items ++ places_in l.declaration l.at l.rest ≡ l.fn.places.items ++ places_in l.declaration 0 l.names;
}

abbrev pub decreases-names : goal.decreases-names
decreases-names l = length l.rest
