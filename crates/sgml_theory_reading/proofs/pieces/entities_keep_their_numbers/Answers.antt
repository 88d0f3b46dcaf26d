use Rattle.sgml_theory_reading.proofs.Numbered.{number-stays}
use Rattle.sgml_theory_reading.proofs.pieces.entities_keep_their_numbers.Goals as goal

pub returns : goal.returns
returns c = number-stays
