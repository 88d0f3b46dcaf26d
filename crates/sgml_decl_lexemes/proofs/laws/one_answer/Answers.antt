use Rattle.sgml_decl_lexemes.proofs.OneReading as reading
use Rattle.sgml_decl_lexemes.proofs.laws.one_answer.Goals as goal

pub returns : goal.returns
returns c = reading.one_answer
