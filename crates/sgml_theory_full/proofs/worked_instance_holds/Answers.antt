use Rattle.sgml_theory_full.proofs.Worked.{is-written-again}
use Rattle.sgml_theory_full.proofs.worked_instance_holds.Goals as goal

pub returns : goal.returns
returns c = is-written-again c.read_may_be_written.ensures
