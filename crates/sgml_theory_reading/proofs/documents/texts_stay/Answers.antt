use Rattle.sgml_theory_reading.proofs.Texts.{text-stays}
use Rattle.sgml_theory_reading.proofs.documents.texts_stay.Goals as goal

pub returns : goal.returns
returns c = text-stays
