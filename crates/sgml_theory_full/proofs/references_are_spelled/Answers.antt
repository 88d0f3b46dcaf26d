use Rattle.sgml_theory_full.proofs.Referring.{references-are-spelled}
use Rattle.sgml_theory_full.proofs.references_are_spelled.Goals as goal

pub returns : goal.returns
returns c = references-are-spelled
