use Rattle.sgml_prolog.proofs.Going.{silent-goes-on, over-is-done, more-is-more, instruction-is-told, refusal-is-told, want-is-told}
use Rattle.sgml_prolog.proofs.laws.steps_are_read.Goals as goal

pub returns-clause-silent : goal.returns-clause-silent
returns-clause-silent c = silent-goes-on

pub returns-clause-over : goal.returns-clause-over
returns-clause-over c = over-is-done

pub returns-clause-more : goal.returns-clause-more
returns-clause-more c = more-is-more

pub returns-clause-told : goal.returns-clause-told
returns-clause-told c = instruction-is-told

pub returns-clause-refused : goal.returns-clause-refused
returns-clause-refused c = refusal-is-told

pub returns-clause-wanted : goal.returns-clause-wanted
returns-clause-wanted c = want-is-told
