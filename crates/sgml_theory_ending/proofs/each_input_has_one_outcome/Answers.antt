use Rattle.sgml_theory_ending.proofs.Outcomes.{each-input-has-an-outcome, no-other-outcome}
use Rattle.sgml_theory_ending.proofs.each_input_has_one_outcome.Goals as goal

pub returns-clause-one : goal.returns-clause-one
returns-clause-one c = each-input-has-an-outcome

pub returns-clause-no_other : goal.returns-clause-no_other
returns-clause-no_other c = no-other-outcome
