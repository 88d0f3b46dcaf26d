use Rattle.sgml_parse.proofs.Leading.{prolog-answers, instance-answers, begins-over}
use Rattle.sgml_parse.proofs.Told.{next-is-parsing, gone-is-parsing}
use Rattle.sgml_parse.proofs.laws.answers_are_told.Goals as goal

pub returns-clause-prolog : goal.returns-clause-prolog
returns-clause-prolog c = prolog-answers

pub returns-clause-instance : goal.returns-clause-instance
returns-clause-instance c = instance-answers

pub returns-clause-over : goal.returns-clause-over
returns-clause-over c = begins-over

pub returns-clause-told : goal.returns-clause-told
returns-clause-told c = next-is-parsing

pub returns-clause-gone : goal.returns-clause-gone
returns-clause-gone c = gone-is-parsing
