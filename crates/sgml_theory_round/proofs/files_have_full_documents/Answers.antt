use Rattle.sgml_theory_round.proofs.Stored.{files-have-full-documents}
use Rattle.sgml_theory_round.proofs.files_have_full_documents.Goals as goal

pub returns : goal.returns
returns c = files-have-full-documents c.fronts_are_stored.ensures c.prologs_are_there.ensures.there c.prologs_are_there.ensures.within c.full_document_is_spellings.ensures
