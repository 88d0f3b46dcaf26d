use Rattle.sgml_delim.proofs.Ending.{end-kept, declaration-kept, end-within}
use Rattle.sgml_delim.proofs.laws.declaration_end_stays.Goals as goal

pub returns-clause-after : goal.returns-clause-after
returns-clause-after c = λ names ender inside text more n e. end-kept names ender inside text more n e

pub returns-clause-declared : goal.returns-clause-declared
returns-clause-declared c = λ names text more n e. declaration-kept names text more n e

pub returns-clause-some : goal.returns-clause-some
returns-clause-some c = λ names ender inside text n e. (end-within names ender inside text n e).some

pub returns-clause-within : goal.returns-clause-within
returns-clause-within c = λ names ender inside text n e. (end-within names ender inside text n e).few
