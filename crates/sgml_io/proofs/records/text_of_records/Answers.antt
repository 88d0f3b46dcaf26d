use Rattle.sgml_io.proofs.Stored.{records_law}
use Rattle.sgml_io.proofs.records.text_of_records.Goals as goal

pub returns : goal.returns
returns c = records_law
