use Rattle.sgml_records.proofs.Once.{told, never-both, one-place, one-end}
use Rattle.sgml_records.proofs.laws.each_end_is_kept_or_ignored.Goals as goal

pub returns-clause-told : goal.returns-clause-told
returns-clause-told c = told

pub returns-clause-never_both : goal.returns-clause-never_both
returns-clause-never_both c = never-both

pub returns-clause-one_place : goal.returns-clause-one_place
returns-clause-one_place c = one-place

pub returns-clause-one_end : goal.returns-clause-one_end
returns-clause-one_end c = one-end
