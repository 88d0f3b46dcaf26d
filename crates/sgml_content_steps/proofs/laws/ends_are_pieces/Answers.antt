use Rattle.sgml_content_steps.proofs.Pieces.{ends-are-pieces}
use Rattle.sgml_content_steps.proofs.laws.ends_are_pieces.Goals as goal

pub returns : goal.returns
returns c = ends-are-pieces
