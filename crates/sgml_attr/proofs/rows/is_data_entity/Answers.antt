use Rattle.sgml_entity.specs.declared.kinds.Space.TheVariants.{General}
use Rattle.sgml_attr.proofs.Numbered.{number-first, number-below}
use Rattle.sgml_attr.proofs.rows.is_data_entity.Goals as goal

pub entity-requires-clause-first : goal.entity-requires-clause-first
entity-requires-clause-first c = number-first c.args.entities.now.entities General c.args.name.now c.in-Some.number c.in-Some.ensures

pub entity-requires-clause-declared : goal.entity-requires-clause-declared
entity-requires-clause-declared c = number-below c.args.entities.now.entities General c.args.name.now c.in-Some.number c.in-Some.ensures
