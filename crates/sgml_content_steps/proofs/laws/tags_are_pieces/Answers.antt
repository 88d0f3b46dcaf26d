use Rattle.sgml_content_steps.proofs.Pieces.{start-tags-are-pieces, empty-starts-are-pieces, end-tags-are-pieces, empty-ends-are-pieces, nets-are-pieces}
use Rattle.sgml_content_steps.proofs.laws.tags_are_pieces.Goals as goal

pub returns : goal.returns
returns c = record { start = start-tags-are-pieces; empty_start = empty-starts-are-pieces; end = end-tags-are-pieces; empty_end = empty-ends-are-pieces; net = nets-are-pieces }
