use Rattle.sgml_theory_reading.proofs.Contexts.{context-step}
use Rattle.sgml_theory_reading.proofs.omission.contexts_step.Goals as goal

pub returns : goal.returns
returns c = context-step
