use Rattle.sgml_decl_lexemes.proofs.Turns as turns
use Rattle.sgml_decl_lexemes.proofs.laws.turns_are_enough.Goals as goal

pub returns : goal.returns
returns c = turns.turns-are-enough
