use Rattle.sgml_theory_values.proofs.Reading.{what-is-read-holds, read-starts-have-values, read-starts-are-read-back}
use Rattle.sgml_theory_values.proofs.read_starts_are_read_back.Goals as goal

pub returns-clause-hold : goal.returns-clause-hold
returns-clause-hold c = what-is-read-holds

pub returns-clause-values : goal.returns-clause-values
returns-clause-values c = read-starts-have-values

pub returns-clause-again : goal.returns-clause-again
returns-clause-again c = read-starts-are-read-back
