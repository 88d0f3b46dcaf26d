use Rattle.sgml_theory_reading.proofs.Borders.{prolog-stays}
use Rattle.sgml_theory_reading.proofs.pieces.prolog_stays.Goals as goal

pub returns : goal.returns
returns c = prolog-stays
