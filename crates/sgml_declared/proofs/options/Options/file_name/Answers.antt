use Rattle.std.proofs.Common.{rules}
use Rattle.sgml_declared.specs.Files.{file_name}
use Rattle.sgml_declared.proofs.options.Options.file_name.Goals as goal

pub returns-in_ok-placed_by-in-Some : goal.returns-in_ok-placed_by-in-Some
unfolding file_name
returns-in_ok-placed_by-in-Some c = search rules

pub returns-in-None : goal.returns-in-None
unfolding file_name
returns-in-None c = search rules
