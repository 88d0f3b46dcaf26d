use Rattle.std.proofs.Common.{◌≡◌, [], map, length}
use Rattle.sgml_names.specs.Index.{names_of}
use Rattle.sgml_names.specs.Lists.{repeats}
use Rattle.sgml_dtd_attlists.proofs.twice.name_again.Given as goal

abbrev pub invariant-definitions : goal.invariant-definitions
invariant-definitions l = repeats (names_of l.seen) (map (λ d. d.name) l.rest) ≡ repeats [] (map (λ d. d.name) l.fn.definitions)

abbrev pub decreases-definitions : goal.decreases-definitions
decreases-definitions l = length l.rest
