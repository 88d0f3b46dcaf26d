use Rattle.sgml_content_steps.proofs.Pieces.{instructions-are-pieces, comments-are-pieces, section-starts-are-pieces, section-ends-are-pieces, declarations-are-pieces, others-are-refused}
use Rattle.sgml_content_steps.proofs.laws.markup_is_pieces.Goals as goal

pub returns : goal.returns
returns c = record { instruction = instructions-are-pieces; comment = comments-are-pieces; section_start = section-starts-are-pieces; section_end = section-ends-are-pieces; declaration = declarations-are-pieces; others = others-are-refused }
