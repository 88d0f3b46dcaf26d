use Rattle.sgml_theory_reading.proofs.Cutting.{decided-refusal-stays}
use Rattle.sgml_theory_reading.proofs.documents.decided_refusal_stays.Goals as goal

pub returns : goal.returns
returns c = decided-refusal-stays
