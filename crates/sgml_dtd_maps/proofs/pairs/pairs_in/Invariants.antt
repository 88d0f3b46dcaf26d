use Rattle.std.proofs.Common.{◌≡◌, [], length}
use Rattle.sgml_dtd_maps.specs.Written.{pairs_in}
use Rattle.sgml_dtd_maps.proofs.pairs.pairs_in.Given as goal

abbrev pub invariant-pairs : goal.invariant-pairs
invariant-pairs l = pairs_in l.syntax l.done.items l.rest ≡ pairs_in l.fn.syntax [] l.fn.pairs

abbrev pub decreases-pairs : goal.decreases-pairs
decreases-pairs l = length l.rest
