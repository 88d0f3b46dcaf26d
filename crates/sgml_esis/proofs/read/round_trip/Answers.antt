use Rattle.sgml_esis.proofs.Files.{both_ways}
use Rattle.sgml_esis.proofs.read.round_trip.Goals as goal

pub returns : goal.returns
returns c = both_ways
