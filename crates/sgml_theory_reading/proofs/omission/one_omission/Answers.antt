use Rattle.sgml_theory_reading.proofs.Runs.{one-may-stand}
use Rattle.sgml_theory_reading.proofs.omission.one_omission.Goals as goal

pub returns : goal.returns
returns c = one-may-stand
