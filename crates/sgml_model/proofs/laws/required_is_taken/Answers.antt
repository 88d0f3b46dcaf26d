use Rattle.sgml_model.proofs.Words.{required_taken}
use Rattle.sgml_model.proofs.laws.required_is_taken.Goals as goal

pub returns : goal.returns
returns c = required_taken
