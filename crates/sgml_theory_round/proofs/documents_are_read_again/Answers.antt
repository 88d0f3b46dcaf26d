use Rattle.sgml_theory_round.proofs.Plain.{documents-are-read-again}
use Rattle.sgml_theory_round.proofs.documents_are_read_again.Goals as goal

pub returns : goal.returns
returns c =
    documents-are-read-again c.nothing_is_open.ensures.nothing c.read_holds.ensures.to_end c.read_is_raw.ensures.before_last
    c.read_is_written.ensures c.full_documents_are_read_again.ensures
