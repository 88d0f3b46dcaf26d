use Rattle.sgml_theory_full.proofs.Told.{events-are-read}
use Rattle.sgml_theory_full.proofs.written_events_are_read.Goals as goal

pub returns : goal.returns
returns c = events-are-read
