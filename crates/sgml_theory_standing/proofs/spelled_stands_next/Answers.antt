use Rattle.sgml_theory_standing.proofs.Given.{spelled-stands-next}
use Rattle.sgml_theory_standing.proofs.spelled_stands_next.Goals as goal

pub returns : goal.returns
returns c = spelled-stands-next
