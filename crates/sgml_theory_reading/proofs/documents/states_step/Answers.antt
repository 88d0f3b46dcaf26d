use Rattle.sgml_theory_reading.proofs.Steps.{state-step}
use Rattle.sgml_theory_reading.proofs.documents.states_step.Goals as goal

pub returns : goal.returns
returns c = state-step
