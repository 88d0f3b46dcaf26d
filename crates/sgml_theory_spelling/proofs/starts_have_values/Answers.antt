use Rattle.sgml_theory_spelling.proofs.Values.{starts-have-values}
use Rattle.sgml_theory_spelling.proofs.starts_have_values.Goals as goal

pub returns : goal.returns
returns c = starts-have-values
