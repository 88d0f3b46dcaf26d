use Rattle.sgml_theory_again.proofs.Holding.{read-is-raw, read-to-end-is-raw}
use Rattle.sgml_theory_again.proofs.read_is_raw.Goals as goal

pub returns-clause-all : goal.returns-clause-all
returns-clause-all c = read-is-raw

pub returns-clause-before_last : goal.returns-clause-before_last
returns-clause-before_last c = read-to-end-is-raw
