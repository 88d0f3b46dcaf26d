use Rattle.sgml_instance.proofs.Going.{goes-on, goes-to-end, needs-more, is-refused, is-wanted}
use Rattle.sgml_instance.proofs.Steps.{step-on}
use Rattle.sgml_instance.proofs.Waiting.{event-is-told, end-is-told}
use Rattle.sgml_instance.proofs.laws.steps_are_read.Goals as goal

pub returns-clause-step : goal.returns-clause-step
returns-clause-step c = step-on

pub returns-clause-goes_on : goal.returns-clause-goes_on
returns-clause-goes_on c = goes-on

pub returns-clause-ends : goal.returns-clause-ends
returns-clause-ends c = goes-to-end

pub returns-clause-event : goal.returns-clause-event
returns-clause-event c = event-is-told

pub returns-clause-end : goal.returns-clause-end
returns-clause-end c = end-is-told

pub returns-clause-more : goal.returns-clause-more
returns-clause-more c = needs-more

pub returns-clause-refused : goal.returns-clause-refused
returns-clause-refused c = is-refused

pub returns-clause-wanted : goal.returns-clause-wanted
returns-clause-wanted c = is-wanted
