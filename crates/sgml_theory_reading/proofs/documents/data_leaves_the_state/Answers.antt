use Rattle.sgml_theory_reading.proofs.DataAgain.{noted-again, none-waits, chars-again}
use Rattle.sgml_theory_reading.proofs.documents.data_leaves_the_state.Goals as goal

pub returns : goal.returns
returns c = record { facts = noted-again; none_waits = none-waits; state = chars-again }
