use Rattle.sgml_theory_full.proofs.Starts.{start-tags-are-spelled, end-tags-are-spelled}
use Rattle.sgml_theory_full.proofs.tags_are_spelled.Goals as goal

pub returns : goal.returns
returns c = record { starts = start-tags-are-spelled; ends = end-tags-are-spelled }
