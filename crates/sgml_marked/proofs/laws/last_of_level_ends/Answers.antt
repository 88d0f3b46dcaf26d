use Rattle.sgml_marked.proofs.Opening.{last-ended, none-ended}
use Rattle.sgml_marked.proofs.laws.last_of_level_ends.Goals as goal

pub returns-clause-one : goal.returns-clause-one
returns-clause-one c = last-ended

pub returns-clause-none : goal.returns-clause-none
returns-clause-none c = none-ended
