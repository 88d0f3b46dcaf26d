use Rattle.sgml_theory_spelling.proofs.Taken.{takes-its-bytes}
use Rattle.sgml_theory_spelling.proofs.pieces_take_their_bytes.Goals as goal

pub returns : goal.returns
returns c = takes-its-bytes
