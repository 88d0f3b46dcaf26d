use Rattle.sgml_theory_spelling.proofs.Decides.{decides}
use Rattle.sgml_theory_spelling.proofs.decided_pieces_stay.Goals as goal

pub returns : goal.returns
returns c = decides
