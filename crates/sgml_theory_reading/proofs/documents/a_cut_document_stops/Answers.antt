use Rattle.sgml_theory_reading.proofs.Cutting.{cut-stops, cut-reads}
use Rattle.sgml_theory_reading.proofs.documents.a_cut_document_stops.Goals as goal

pub returns : goal.returns
returns c = record { stops = cut-stops; reads = cut-reads }
