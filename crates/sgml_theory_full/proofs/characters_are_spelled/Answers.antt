use Rattle.sgml_theory_full.proofs.Characters.{characters-are-spelled}
use Rattle.sgml_theory_full.proofs.characters_are_spelled.Goals as goal

pub returns : goal.returns
returns c = characters-are-spelled
