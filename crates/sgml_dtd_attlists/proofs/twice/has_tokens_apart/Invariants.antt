use Rattle.std.proofs.Common.{◌≡◌, ◌++◌, map, length}
use Rattle.std.specs.List.{flat_map}
use Rattle.sgml_hashes.specs.Hashes.{hash_of}
use Rattle.sgml_dtd_attlists.specs.Interpreted.{group_of}
use Rattle.sgml_dtd_attlists.proofs.twice.has_tokens_apart.Given as goal

abbrev pub invariant-definitions : goal.invariant-definitions
invariant-definitions l =
    l.hashes ++ map hash_of (flat_map (λ d. group_of d.declared) l.rest) ≡ map hash_of (flat_map (λ d. group_of d.declared) l.fn.definitions)

abbrev pub decreases-definitions : goal.decreases-definitions
decreases-definitions l = length l.rest
