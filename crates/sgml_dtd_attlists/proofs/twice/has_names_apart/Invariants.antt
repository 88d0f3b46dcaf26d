use Rattle.std.proofs.Common.{◌≡◌, ◌++◌, map, length}
use Rattle.sgml_hashes.specs.Hashes.{hash_of}
use Rattle.sgml_dtd_attlists.proofs.twice.has_names_apart.Given as goal

abbrev pub invariant-definitions : goal.invariant-definitions
invariant-definitions l = l.hashes ++ map hash_of (map (λ d. d.name) l.rest) ≡ map hash_of (map (λ d. d.name) l.fn.definitions)

abbrev pub decreases-definitions : goal.decreases-definitions
decreases-definitions l = length l.rest
