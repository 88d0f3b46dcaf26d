use Rattle.sgml_theory_reading.proofs.Reading.{goes-or-stops, no-both, one-move, one-stop}
use Rattle.sgml_theory_reading.proofs.documents.one_stop.Goals as goal

pub returns : goal.returns
returns c = record { either = goes-or-stops; never_both = no-both; one_move = one-move; one_reason = one-stop }
