use Rattle.sgml_delim.specs.declared.delim.Mode.TheVariants.{Con}
use Rattle.sgml_scan.proofs.Longest.{longest-opens}
use Rattle.sgml_scan.proofs.laws.delimiter_is_longest.Goals as goal

pub returns : goal.returns
returns c = λ s net bytes delim number n e h.
    longest-opens s net bytes delim n (c.longest_is_recognised.ensures s Con net bytes) e (c.longest_is_told.ensures.longest bytes number n h)
