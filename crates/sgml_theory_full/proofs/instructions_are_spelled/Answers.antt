use Rattle.sgml_theory_full.proofs.Instructions.{instructions-are-spelled}
use Rattle.sgml_theory_full.proofs.instructions_are_spelled.Goals as goal

pub returns : goal.returns
returns c = instructions-are-spelled
