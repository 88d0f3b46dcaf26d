use Rattle.sgml_theory_values.proofs.Full.{full-documents-spell}
use Rattle.sgml_theory_values.proofs.Referring.{references-stay, ends-are-written}
use Rattle.sgml_theory_values.proofs.full_documents_spell_values.Goals as goal

pub returns-clause-spell : goal.returns-clause-spell
returns-clause-spell c = full-documents-spell

pub returns-clause-refer : goal.returns-clause-refer
returns-clause-refer c = references-stay

pub returns-clause-ends : goal.returns-clause-ends
returns-clause-ends c = ends-are-written
