use Rattle.sgml_decl_lexemes.proofs.Staying as staying
use Rattle.sgml_decl_lexemes.proofs.laws.decided_stays.Goals as goal

pub returns : goal.returns
returns c = staying.decided_stays
