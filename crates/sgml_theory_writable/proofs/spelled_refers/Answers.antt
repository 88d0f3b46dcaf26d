use Rattle.sgml_theory_writable.proofs.Walking.{spelled-refers}
use Rattle.sgml_theory_writable.proofs.spelled_refers.Goals as goal

pub returns : goal.returns
returns c = spelled-refers
