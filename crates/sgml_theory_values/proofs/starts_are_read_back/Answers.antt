use Rattle.sgml_theory_values.proofs.Given.{values-are-given}
use Rattle.sgml_theory_values.proofs.Starts.{written-starts, current-values}
use Rattle.sgml_theory_values.proofs.Ends.{ends-stay}
use Rattle.sgml_theory_values.proofs.Holding.{currents-hold}
use Rattle.sgml_theory_values.proofs.starts_are_read_back.Goals as goal

pub returns-clause-values : goal.returns-clause-values
returns-clause-values c = written-starts

pub returns-clause-currents : goal.returns-clause-currents
returns-clause-currents c = current-values

pub returns-clause-ends : goal.returns-clause-ends
returns-clause-ends c = ends-stay

pub returns-clause-hold : goal.returns-clause-hold
returns-clause-hold c = currents-hold

pub returns-clause-given : goal.returns-clause-given
returns-clause-given c = values-are-given
