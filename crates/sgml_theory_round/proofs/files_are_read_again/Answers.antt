use Rattle.sgml_theory_round.proofs.Stored.{files-are-read-again}
use Rattle.sgml_theory_round.proofs.files_are_read_again.Goals as goal

pub returns : goal.returns
returns c = files-are-read-again c.nothing_is_open.ensures.nothing c.prologs_are_there.ensures.there c.read_is_written.ensures c.files_have_full_documents.ensures c.documents_are_read_again.ensures
