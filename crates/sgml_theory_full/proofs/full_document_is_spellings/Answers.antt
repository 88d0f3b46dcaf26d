use Rattle.sgml_theory_full.proofs.Texts.{full-document-is-spellings}
use Rattle.sgml_theory_full.proofs.full_document_is_spellings.Goals as goal

pub returns : goal.returns
returns c = full-document-is-spellings
