use Rattle.sgml_theory_ending.proofs.Ending.{reading-ends, each-input-is-read}
use Rattle.sgml_theory_ending.proofs.Coming.{no-more-reads, outcomes-come}
use Rattle.sgml_theory_ending.proofs.reading_ends.Goals as goal

pub returns-clause-reading : goal.returns-clause-reading
returns-clause-reading c = reading-ends

pub returns-clause-input : goal.returns-clause-input
returns-clause-input c = each-input-is-read

pub returns-clause-longest : goal.returns-clause-longest
returns-clause-longest c = no-more-reads

pub returns-clause-computed : goal.returns-clause-computed
returns-clause-computed c = outcomes-come
