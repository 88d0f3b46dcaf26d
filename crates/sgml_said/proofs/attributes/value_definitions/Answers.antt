use Rattle.sgml_said.specs.Told.{definitions_at}
use Rattle.sgml_said.proofs.Paired.{nothing_with}
use Rattle.sgml_said.proofs.attributes.value_definitions.Goals as goal

pub returns-in-empty : goal.returns-in-empty
returns-in-empty c = nothing_with (definitions_at c.args.dtd.now c.args.element) c.args.values.now c.in-empty.len_below
