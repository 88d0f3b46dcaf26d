use Rattle.sgml_parse.proofs.Gains.{begins, feeds, ends, supplies}
use Rattle.sgml_parse.proofs.laws.parser_is_given.Goals as goal

pub returns-clause-begins : goal.returns-clause-begins
returns-clause-begins c = begins

pub returns-clause-fed : goal.returns-clause-fed
returns-clause-fed c = feeds

pub returns-clause-ended : goal.returns-clause-ended
returns-clause-ended c = ends

pub returns-clause-supplied : goal.returns-clause-supplied
returns-clause-supplied c = supplies
