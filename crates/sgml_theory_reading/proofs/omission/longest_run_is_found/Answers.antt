use Rattle.sgml_theory_reading.proofs.Walking.{found-is, found-longest}
use Rattle.sgml_theory_reading.proofs.omission.longest_run_is_found.Goals as goal

pub returns : goal.returns
returns c = record { piece = found-is; run = found-longest }
