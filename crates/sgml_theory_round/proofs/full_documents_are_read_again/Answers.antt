use Rattle.sgml_theory_round.proofs.Again.{full-documents-are-read-again}
use Rattle.sgml_theory_round.proofs.full_documents_are_read_again.Goals as goal

pub returns : goal.returns
returns c =
    full-documents-are-read-again c.same_prologs_are_read.ensures.characters c.nothing_is_open.ensures.nothing c.read_may_be_written.ensures
    c.instances_are_read_again.ensures
