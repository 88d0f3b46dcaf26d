use Rattle.std.proofs.Common.{◌≡◌, length, is_some}
use Rattle.sgml_shortref.specs.Maps.{entity_in}
use Rattle.sgml_dtd_maps.proofs.pairs.is_mapped.Given as goal

abbrev pub invariant-pairs : goal.invariant-pairs
invariant-pairs l = is_some (entity_in l.rest l.number) ≡ is_some (entity_in l.fn.pairs l.fn.number)

abbrev pub decreases-pairs : goal.decreases-pairs
decreases-pairs l = length l.rest
