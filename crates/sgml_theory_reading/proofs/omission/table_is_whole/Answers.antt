use Rattle.sgml_theory_reading.proofs.Table.{reason-exact}
use Rattle.sgml_theory_reading.proofs.omission.table_is_whole.Goals as goal

pub returns : goal.returns
returns c = reason-exact
