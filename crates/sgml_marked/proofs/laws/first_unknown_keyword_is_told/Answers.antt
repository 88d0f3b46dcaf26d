use Rattle.sgml_marked.proofs.Knowing.{unknown-told, all-known}
use Rattle.sgml_marked.proofs.laws.first_unknown_keyword_is_told.Goals as goal

pub returns-clause-unknown : goal.returns-clause-unknown
returns-clause-unknown c = unknown-told

pub returns-clause-known : goal.returns-clause-known
returns-clause-known c = all-known
