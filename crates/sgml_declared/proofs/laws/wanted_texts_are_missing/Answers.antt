use Rattle.sgml_declared.proofs.Opened.{wanted-are-missing}
use Rattle.sgml_declared.proofs.laws.wanted_texts_are_missing.Goals as goal

pub returns : goal.returns
returns c = wanted-are-missing
