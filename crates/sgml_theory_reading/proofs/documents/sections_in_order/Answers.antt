use Rattle.sgml_theory_reading.proofs.InOrder.{section-starts, section-ends}
use Rattle.sgml_theory_reading.proofs.documents.sections_in_order.Goals as goal

pub returns : goal.returns
returns c = record { starts = section-starts; ends = section-ends }
