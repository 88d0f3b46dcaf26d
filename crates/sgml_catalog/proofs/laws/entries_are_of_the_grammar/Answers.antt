use Rattle.sgml_catalog.proofs.Grammatical.{grammatical}
use Rattle.sgml_catalog.proofs.Complete.{all_told}
use Rattle.sgml_catalog.proofs.laws.entries_are_of_the_grammar.Goals as goal

pub returns-clause-only : goal.returns-clause-only
returns-clause-only c = grammatical

pub returns-clause-all : goal.returns-clause-all
returns-clause-all c = all_told
