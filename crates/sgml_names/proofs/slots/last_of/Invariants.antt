use Rattle.std.proofs.Common.{◌≡◌, length}
use Rattle.sgml_names.specs.Slots.{hashes_of, latest, IsChained}
use Rattle.sgml_names.proofs.slots.last_of.Given as goal

abbrev pub invariant-chain : goal.invariant-chain
invariant-chain l = record {
  chained : IsChained (length l.last) l.hash (hashes_of l.links) l.place;
  same : latest l.hash (hashes_of l.links) l.place ≡ latest l.hash (hashes_of l.links) l.start;
}

abbrev pub decreases-chain : goal.decreases-chain
decreases-chain l = l.place
