use Rattle.sgml_catalog.proofs.Refused.{refused_at}
use Rattle.sgml_catalog.proofs.Complete.{all_refused}
use Rattle.sgml_catalog.proofs.laws.refusals_are_of_the_grammar.Goals as goal

pub returns-clause-only : goal.returns-clause-only
returns-clause-only c = refused_at

pub returns-clause-all : goal.returns-clause-all
returns-clause-all c = all_refused
