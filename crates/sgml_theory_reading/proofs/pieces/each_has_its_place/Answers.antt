use Rattle.sgml_theory_reading.proofs.Counted.{starts-have-places, instructions-have-places}
use Rattle.sgml_theory_reading.proofs.pieces.each_has_its_place.Goals as goal

pub returns : goal.returns
returns c = record { starts = starts-have-places; instructions = instructions-have-places }
