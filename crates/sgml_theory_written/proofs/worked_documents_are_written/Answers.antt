use Rattle.sgml_theory_written.proofs.Worked.{worked-tags, worked-data}
use Rattle.sgml_theory_written.proofs.worked_documents_are_written.Goals as goal

pub returns-clause-tags : goal.returns-clause-tags
returns-clause-tags c = worked-tags

pub returns-clause-data : goal.returns-clause-data
returns-clause-data c = worked-data
