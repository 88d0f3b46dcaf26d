use Rattle.std.proofs.Common.{◌≡◌, [], length}
use Rattle.std.specs.List.{flat_map}
use Rattle.sgml_names.specs.Index.{names_of}
use Rattle.sgml_names.specs.Lists.{repeats}
use Rattle.sgml_dtd_attlists.specs.Interpreted.{group_of}
use Rattle.sgml_dtd_attlists.proofs.twice.token_again.Given as goal

abbrev pub invariant-definitions : goal.invariant-definitions
invariant-definitions l = repeats (names_of l.seen) (flat_map (λ d. group_of d.declared) l.rest) ≡ repeats [] (flat_map (λ d. group_of d.declared) l.fn.definitions)

abbrev pub decreases-definitions : goal.decreases-definitions
decreases-definitions l = length l.rest
