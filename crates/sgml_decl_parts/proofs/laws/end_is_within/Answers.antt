use Rattle.sgml_decl_parts.proofs.Continuing.{end_within}
use Rattle.sgml_decl_parts.proofs.laws.end_is_within.Goals as goal

pub returns-clause-few : goal.returns-clause-few
returns-clause-few c = λ names construct bytes n e. (end_within names construct bytes n e).few

pub returns-clause-past : goal.returns-clause-past
returns-clause-past c = λ names construct bytes n e. (end_within names construct bytes n e).past
