use Rattle.sgml_theory_reading.proofs.Told.{events-step, moves-told}
use Rattle.sgml_theory_reading.proofs.documents.events_step.Goals as goal

pub returns : goal.returns
returns c = record { piece = events-step; moves = moves-told }
