use Rattle.sgml_theory_prologs.proofs.AtBorder.{prologs-are-decided, implied-names}
use Rattle.sgml_theory_prologs.proofs.prologs_are_decided.Goals as goal

pub returns-clause-decided : goal.returns-clause-decided
returns-clause-decided c = prologs-are-decided

pub returns-clause-implied : goal.returns-clause-implied
returns-clause-implied c = implied-names
