use Rattle.sgml_theory_standing.proofs.Gaining.{texts-are-gained}
use Rattle.sgml_theory_standing.proofs.texts_are_gained.Goals as goal

pub returns : goal.returns
returns c = texts-are-gained
