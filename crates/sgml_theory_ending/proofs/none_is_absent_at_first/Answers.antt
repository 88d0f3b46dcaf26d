use Rattle.sgml_theory_ending.proofs.First.{records-begin, none-is-absent-at-first}
use Rattle.sgml_theory_ending.proofs.none_is_absent_at_first.Goals as goal

pub returns-clause-records : goal.returns-clause-records
returns-clause-records c = records-begin

pub returns-clause-refused : goal.returns-clause-refused
returns-clause-refused c = none-is-absent-at-first
