use Rattle.sgml_decl_lexemes.proofs.Starting as starting
use Rattle.sgml_decl_lexemes.proofs.laws.plain_starts.Goals as goal

pub returns : goal.returns
returns c = starting.plain_starts
