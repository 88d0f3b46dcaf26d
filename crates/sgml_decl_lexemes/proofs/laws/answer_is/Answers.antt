use Rattle.sgml_decl_lexemes.proofs.Running as running
use Rattle.sgml_decl_lexemes.proofs.laws.answer_is.Goals as goal

pub returns : goal.returns
returns c = running.answer_is
