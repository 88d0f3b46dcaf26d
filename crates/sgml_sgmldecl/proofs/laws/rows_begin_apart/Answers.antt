use Rattle.sgml_sgmldecl.proofs.Apart.{apart_rows}
use Rattle.sgml_sgmldecl.proofs.laws.rows_begin_apart.Goals as goal

pub returns : goal.returns
returns c = apart_rows
