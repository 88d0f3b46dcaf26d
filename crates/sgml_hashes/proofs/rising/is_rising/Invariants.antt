use Rattle.std.proofs.Common.{◌≡◌, length}
use Rattle.sgml_hashes.specs.Hashes.{rises_from, rises}
use Rattle.sgml_hashes.proofs.rising.is_rising.Given as goal

abbrev pub invariant-numbers : goal.invariant-numbers
invariant-numbers l = rises_from l.last l.rest ≡ rises l.fn.numbers

abbrev pub decreases-numbers : goal.decreases-numbers
decreases-numbers l = length l.rest
