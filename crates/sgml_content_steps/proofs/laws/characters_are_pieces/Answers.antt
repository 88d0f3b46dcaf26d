use Rattle.sgml_content_steps.proofs.Pieces.{characters-are-pieces, record-ends-are-pieces, record-starts-are-pieces, numbers-are-pieces, functions-are-pieces, references-are-pieces, strings-are-pieces}
use Rattle.sgml_content_steps.proofs.laws.characters_are_pieces.Goals as goal

pub returns : goal.returns
returns c = record { characters = characters-are-pieces; record_ends = record-ends-are-pieces; record_starts = record-starts-are-pieces; numbers = numbers-are-pieces; functions = functions-are-pieces; references = references-are-pieces; strings = strings-are-pieces }
