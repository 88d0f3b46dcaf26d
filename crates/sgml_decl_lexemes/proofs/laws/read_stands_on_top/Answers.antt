use Rattle.sgml_decl_lexemes.proofs.Standing as standing
use Rattle.sgml_decl_lexemes.proofs.laws.read_stands_on_top.Goals as goal

pub returns : goal.returns
returns c = standing.on-top
