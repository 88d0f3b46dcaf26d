use Rattle.sgml_theory_reading.proofs.DataAgain.{reads-on}
use Rattle.sgml_theory_reading.proofs.documents.data_reads_on.Goals as goal

pub returns : goal.returns
returns c = reads-on
