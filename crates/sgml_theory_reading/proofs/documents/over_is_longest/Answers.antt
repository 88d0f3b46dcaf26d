use Rattle.sgml_theory_reading.proofs.Sessions.{over-is-longest}
use Rattle.sgml_theory_reading.proofs.documents.over_is_longest.Goals as goal

pub returns : goal.returns
returns c = over-is-longest
