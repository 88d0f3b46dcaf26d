use Rattle.std.proofs.Common.{◌∙◌}
use Rattle.sgml_text.specs.NameCharacters.{is_name_character}
use Rattle.sgml_text.proofs.Runs.{run_length}
use Rattle.sgml_text.proofs.name_set.NameSet.name_length.Goals as goal

pub returns-clause-count : goal.returns-clause-count
returns-clause-count c = c.run_length.ensures.value ∙ run_length (is_name_character c.args.self.now) c.args.text.now
