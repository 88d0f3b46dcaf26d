use Rattle.sgml_theory_again.proofs.Naming.{read-has-names, referred-is-entity}
use Rattle.sgml_theory_again.proofs.read_has_names.Goals as goal

pub returns-clause-names : goal.returns-clause-names
returns-clause-names c = read-has-names

pub returns-clause-entities : goal.returns-clause-entities
returns-clause-entities c = referred-is-entity
