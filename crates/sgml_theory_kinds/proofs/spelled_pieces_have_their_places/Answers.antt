use Rattle.sgml_theory_kinds.proofs.Placed.{spelled-pieces-have-their-places}
use Rattle.sgml_theory_kinds.proofs.spelled_pieces_have_their_places.Goals as goal

pub returns : goal.returns
returns c = spelled-pieces-have-their-places
