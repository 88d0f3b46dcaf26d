use Rattle.sgml_model.proofs.Grammar.{read_spelled}
use Rattle.sgml_model.proofs.laws.read_is_spelled.Goals as goal

pub returns : goal.returns
returns c = read_spelled
