use Rattle.sgml_theory_starts.proofs.Read.{tags-are-read}
use Rattle.sgml_theory_starts.proofs.tags_are_read.Goals as goal

pub returns : goal.returns
returns c = tags-are-read
