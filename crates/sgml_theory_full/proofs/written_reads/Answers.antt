use Rattle.sgml_theory_full.proofs.Written.{written-reads}
use Rattle.sgml_theory_full.proofs.written_reads.Goals as goal

pub returns : goal.returns
returns c = written-reads
