use Rattle.sgml_theory_written.proofs.Free.{free-data, free-left, usual-free, not-all}
use Rattle.sgml_theory_written.proofs.free_content.Goals as goal

pub returns-clause-free : goal.returns-clause-free
returns-clause-free c = λ r f. (free-data r f, λ k. free-left r k f)

pub returns-clause-not_all : goal.returns-clause-not_all
returns-clause-not_all c = not-all

pub returns-clause-usual : goal.returns-clause-usual
returns-clause-usual c = usual-free
