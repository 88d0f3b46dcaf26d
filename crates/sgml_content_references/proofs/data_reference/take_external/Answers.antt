use Rattle.std.proofs.Common.{inl, refl}
use Rattle.sgml_content_references.specs.declared.entity.Said.TheVariants as said
use Rattle.sgml_content_references.specs.declared.event.Entity.TheVariants as entity
use Rattle.sgml_content_references.specs.Entities.{kind_of}
use Rattle.sgml_content_references.proofs.Referenced.{entity-tells}
use Rattle.sgml_content_references.proofs.data_reference.take_external.Goals as goal

pub returns : goal.returns
returns c =
    entity-tells said.IsExternal (entity.External c.args.number) c.args.number c.args.texts.now c.args.token c.args.content.now c.take_entity.new.content c.args.told.now.items
    c.take_entity.new.told.items c.take_entity.result (c.take_entity.ensures (kind_of (entity.External c.args.number)) (inl refl))
