use Rattle.sgml_theory_written.proofs.Moving.{visible-written}
use Rattle.sgml_theory_written.proofs.Tags.{visible-is-written}
use Rattle.sgml_theory_written.proofs.visible_pieces_may_be_written.Goals as goal

pub returns-clause-written : goal.returns-clause-written
returns-clause-written c = visible-written

pub returns-clause-as_they_are : goal.returns-clause-as_they_are
returns-clause-as_they_are c = visible-is-written
