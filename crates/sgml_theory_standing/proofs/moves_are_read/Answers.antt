use Rattle.sgml_theory_standing.proofs.Moving.{next-moves-are-read, end-is-read, refused-next-stops}
use Rattle.sgml_theory_standing.proofs.Alone.{alone-moves, alone-keeps}
use Rattle.sgml_theory_standing.proofs.moves_are_read.Goals as goal

pub returns : goal.returns
returns c = record { alone = alone-moves; keeps = alone-keeps; read = next-moves-are-read; ends = end-is-read; stops = refused-next-stops }
