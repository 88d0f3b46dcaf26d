use Rattle.sgml_theory_standing.proofs.Parsing.{unspelled-stops, refused-stops}
use Rattle.sgml_theory_standing.proofs.content_stops.Goals as goal

pub returns : goal.returns
returns c = record { unspelled = unspelled-stops; refused = refused-stops }
