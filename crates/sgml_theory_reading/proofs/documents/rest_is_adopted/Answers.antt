use Rattle.sgml_theory_reading.proofs.Sessions.{adopted}
use Rattle.sgml_theory_reading.proofs.documents.rest_is_adopted.Goals as goal

pub returns : goal.returns
returns c = adopted
