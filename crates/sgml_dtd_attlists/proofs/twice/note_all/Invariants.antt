use Rattle.std.proofs.Common.{◌≡◌, ◌++◌, map, length}
use Rattle.sgml_hashes.specs.Hashes.{hash_of}
use Rattle.sgml_dtd_attlists.proofs.twice.note_all.Given as goal

abbrev pub invariant-names : goal.invariant-names
invariant-names l = l.hashes ++ map hash_of l.rest ≡ l.fn.hashes ++ map hash_of l.fn.names

abbrev pub decreases-names : goal.decreases-names
decreases-names l = length l.rest
