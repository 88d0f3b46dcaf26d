use Rattle.std.proofs.Common.{rules}
use Rattle.sgml_theory_standing.specs.theory_reading.Types.{entity}
use Rattle.sgml_declared.proofs.options.Options.note_entity.Goals as goal

pub returns-in-Some-clause-found : goal.returns-in-Some-clause-found
unfolding entity
returns-in-Some-clause-found c = search rules

pub returns-in-None-clause-found : goal.returns-in-None-clause-found
unfolding entity
returns-in-None-clause-found c = search rules
