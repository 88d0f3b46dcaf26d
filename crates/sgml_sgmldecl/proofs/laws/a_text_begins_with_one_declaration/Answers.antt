use Rattle.sgml_sgmldecl.proofs.Answering.{one_declaration}
use Rattle.sgml_sgmldecl.proofs.laws.a_text_begins_with_one_declaration.Goals as goal

pub returns : goal.returns
returns c = one_declaration
