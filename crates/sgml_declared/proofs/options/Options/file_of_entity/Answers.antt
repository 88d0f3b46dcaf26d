use Rattle.std.proofs.Common.{rules}
use Rattle.sgml_theory_standing.specs.theory_reading.Types.{entity}
use Rattle.sgml_declared.proofs.options.Options.file_of_entity.Goals as goal

pub returns-in-Some : goal.returns-in-Some
unfolding entity
returns-in-Some c = search rules

pub returns-in-None : goal.returns-in-None
unfolding entity
returns-in-None c = search rules
