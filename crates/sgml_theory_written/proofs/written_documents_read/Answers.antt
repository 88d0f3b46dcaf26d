use Rattle.sgml_theory_written.proofs.Documents.{written-reads, rewritten-reads, freely-reads}
use Rattle.sgml_theory_written.proofs.written_documents_read.Goals as goal

pub returns-clause-written : goal.returns-clause-written
returns-clause-written c = written-reads

pub returns-clause-rewritten : goal.returns-clause-rewritten
returns-clause-rewritten c = rewritten-reads

pub returns-clause-freely : goal.returns-clause-freely
returns-clause-freely c = freely-reads
