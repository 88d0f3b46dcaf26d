use Rattle.sgml_decl_lexemes.proofs.Running as running
use Rattle.sgml_decl_lexemes.proofs.laws.asked_stands_at_start.Goals as goal

pub returns : goal.returns
returns c = running.begins-of
