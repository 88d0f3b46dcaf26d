use Rattle.sgml_theory_prologs.proofs.AtBorder.{prologs-are-there, prologs-are-one}
use Rattle.sgml_theory_prologs.proofs.Closed.{prologs-end-within-records}
use Rattle.sgml_theory_prologs.proofs.prologs_are_there.Goals as goal

pub returns-clause-there : goal.returns-clause-there
returns-clause-there c = prologs-are-there

pub returns-clause-one : goal.returns-clause-one
returns-clause-one c = prologs-are-one

pub returns-clause-within : goal.returns-clause-within
returns-clause-within c = prologs-end-within-records
