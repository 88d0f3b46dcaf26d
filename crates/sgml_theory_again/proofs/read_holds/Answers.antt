use Rattle.sgml_theory_again.proofs.Holding.{read-holds, read-to-end-holds}
use Rattle.sgml_theory_again.proofs.read_holds.Goals as goal

pub returns-clause-before : goal.returns-clause-before
returns-clause-before c = read-holds c.read_starts_are_read_back.ensures.values

pub returns-clause-to_end : goal.returns-clause-to_end
returns-clause-to_end c = read-to-end-holds c.read_starts_are_read_back.ensures.values
