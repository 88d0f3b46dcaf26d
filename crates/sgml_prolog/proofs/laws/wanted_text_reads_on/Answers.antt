use Rattle.sgml_prolog.proofs.Gaining.{wanted-text-is-gain, wanted-text-reads-on}
use Rattle.sgml_prolog.proofs.laws.wanted_text_reads_on.Goals as goal

pub returns-clause-gain : goal.returns-clause-gain
returns-clause-gain c = wanted-text-is-gain

pub returns-clause-reads : goal.returns-clause-reads
returns-clause-reads c = wanted-text-reads-on
