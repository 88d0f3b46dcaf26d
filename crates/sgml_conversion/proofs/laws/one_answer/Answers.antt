use Rattle.sgml_conversion.proofs.Answered.{one-answer}
use Rattle.sgml_conversion.proofs.OneFull.{one-full-answer}
use Rattle.sgml_conversion.proofs.laws.one_answer.Goals as goal

pub returns-clause-lines : goal.returns-clause-lines
returns-clause-lines c = one-answer

pub returns-clause-full : goal.returns-clause-full
returns-clause-full c = one-full-answer
