use Rattle.sgml_theory_reading.proofs.Cutting.{decided-stays}
use Rattle.sgml_theory_reading.proofs.documents.decided_stays.Goals as goal

pub returns : goal.returns
returns c = decided-stays
