use Rattle.sgml_theory_reading.proofs.ByNumber.{none-current, start-given}
use Rattle.sgml_theory_reading.proofs.documents.currents_by_number.Goals as goal

pub returns : goal.returns
returns c = record { none = none-current; start = start-given }
