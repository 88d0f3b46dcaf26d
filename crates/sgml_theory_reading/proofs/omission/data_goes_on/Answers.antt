use Rattle.sgml_theory_reading.proofs.Again.{data-goes-on, data-leaves}
use Rattle.sgml_theory_reading.proofs.omission.data_goes_on.Goals as goal

pub returns : goal.returns
returns c = record { allowed = data-goes-on; same = data-leaves }
