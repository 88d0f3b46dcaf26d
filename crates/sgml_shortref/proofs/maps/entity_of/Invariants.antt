use Rattle.std.proofs.Common.{◌≡◌, drop}
use Rattle.sgml_shortref.specs.Maps.{entity_in}
use Rattle.sgml_shortref.proofs.maps.entity_of.Given as goal

abbrev pub invariant-loop-pair : goal.invariant-loop-pair
invariant-loop-pair l = entity_in l.pairs l.string ≡ entity_in (drop l.pair-index l.pairs) l.string
