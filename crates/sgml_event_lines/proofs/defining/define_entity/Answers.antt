use Rattle.std.proofs.Common.{ap, ◌∙◌}
use Rattle.sgml_entity.specs.Entities.{number_of}
use Rattle.sgml_entity.specs.declared.kinds.Space.TheVariants.{General}
use Rattle.sgml_event_lines.proofs.Definitions.{name_missing}
use Rattle.sgml_event_lines.proofs.defining.define_entity.Goals as goal

pub returns-in-None : goal.returns-in-None
returns-in-None g c = name_missing c.args.dtd.now c.args.name.now c.find.result _ _ c.args.pen.now (c.find.ensures ∙ ap (λ es. number_of es General c.args.name.now) c.entities.ensures.entities) c.in-None.is
