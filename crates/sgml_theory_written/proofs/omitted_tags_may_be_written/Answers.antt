use Rattle.sgml_theory_written.proofs.Moving.{omitted-written}
use Rattle.sgml_theory_written.proofs.Tags.{omitted-is-written}
use Rattle.sgml_theory_written.proofs.omitted_tags_may_be_written.Goals as goal

pub returns-clause-written : goal.returns-clause-written
returns-clause-written c = omitted-written

pub returns-clause-as_they_are : goal.returns-clause-as_they_are
returns-clause-as_they_are c = omitted-is-written
