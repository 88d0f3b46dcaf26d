use Rattle.sgml_theory_values.proofs.Worked.{worked-start}
use Rattle.sgml_theory_values.proofs.worked_start_is_read_back.Goals as goal

pub returns : goal.returns
returns c = worked-start
