use Rattle.sgml_theory_standing.proofs.Beginning.{reading-begins}
use Rattle.sgml_theory_standing.proofs.reading_begins.Goals as goal

pub returns : goal.returns
returns c = reading-begins
