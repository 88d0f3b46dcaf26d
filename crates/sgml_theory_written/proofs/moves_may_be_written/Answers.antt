use Rattle.sgml_theory_written.proofs.Moving.{moves-written, moves-are-written}
use Rattle.sgml_theory_written.proofs.moves_may_be_written.Goals as goal

pub returns-clause-written : goal.returns-clause-written
returns-clause-written c = moves-written

pub returns-clause-as_they_are : goal.returns-clause-as_they_are
returns-clause-as_they_are c = moves-are-written
