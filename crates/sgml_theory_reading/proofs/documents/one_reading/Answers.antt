use Rattle.sgml_theory_reading.proofs.Reading.{one-front}
use Rattle.sgml_theory_reading.proofs.Sessions.{one-document}
use Rattle.sgml_theory_reading.proofs.documents.one_reading.Goals as goal

pub returns : goal.returns
returns c = record { fronts = one-front; document = one-document }
