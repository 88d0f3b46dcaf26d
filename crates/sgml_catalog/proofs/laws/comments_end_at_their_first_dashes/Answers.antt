use Rattle.sgml_catalog.proofs.Dashes.{first_only, first_all}
use Rattle.sgml_catalog.proofs.laws.comments_end_at_their_first_dashes.Goals as goal

pub returns-clause-only : goal.returns-clause-only
returns-clause-only c = first_only

pub returns-clause-all : goal.returns-clause-all
returns-clause-all c = first_all
