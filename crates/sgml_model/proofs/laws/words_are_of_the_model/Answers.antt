use Rattle.sgml_model.proofs.Words.{words_of}
use Rattle.sgml_model.proofs.laws.words_are_of_the_model.Goals as goal

pub returns : goal.returns
returns c = words_of
