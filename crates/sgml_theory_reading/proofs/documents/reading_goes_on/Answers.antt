use Rattle.sgml_theory_reading.proofs.Cutting.{read-append}
use Rattle.sgml_theory_reading.proofs.documents.reading_goes_on.Goals as goal

pub returns : goal.returns
returns c = read-append
