use Rattle.sgml_theory_values.proofs.Rows.{spelled-gives}
use Rattle.sgml_theory_values.proofs.values_are_given_again.Goals as goal

pub returns : goal.returns
returns c = spelled-gives
