use Rattle.sgml_decl_lexemes.proofs.Plainly as plainly
use Rattle.sgml_decl_lexemes.proofs.laws.plain_literals.Goals as goal

pub returns : goal.returns
returns c = plainly.plain_literals
