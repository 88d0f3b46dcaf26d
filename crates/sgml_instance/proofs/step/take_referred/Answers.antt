use Rattle.std.proofs.Common.{Ok, subst}
use Rattle.sgml_content_references.specs.Referring.{TellsReference}
use Rattle.sgml_content_references.specs.declared.reference.Referred.{Referred}
use Rattle.sgml_declared.specs.theory_reading.Pieces.{Data, DataRef}
use Rattle.sgml_content_references.specs.declared.entity.Said.TheVariants as said
use Rattle.sgml_instance.proofs.Found.{data-at}
use Rattle.sgml_instance.proofs.step.take_referred.Goals as goal

pub returns-in-Data : goal.returns-in-Data
returns-in-Data c =
    let r = subst (λ (z : Referred). TellsReference c.args.options.now c.args.state c.args.texts.now c.args.token c.args.content.now c.take_reference.new.content c.args.told.now.items c.take_reference.new.told.items (Ok z)) c.in-Data.is c.in-Ok.ensures in
    data-at c.args.options.now c.args.state c.args.texts.now c.args.token c.in-Data.number said.IsData (Data c.in-Data.number) c.args.content.now c.take_reference.new.content c.take_data.new.content
    c.args.told.now.items c.take_reference.new.told.items c.take_data.new.told.items c.take_data.result r.0 r.1 r.2 c.take_data.ensures

pub returns-in-External : goal.returns-in-External
returns-in-External c =
    let r = subst (λ (z : Referred). TellsReference c.args.options.now c.args.state c.args.texts.now c.args.token c.args.content.now c.take_reference.new.content c.args.told.now.items c.take_reference.new.told.items (Ok z)) c.in-External.is c.in-Ok.ensures in
    data-at c.args.options.now c.args.state c.args.texts.now c.args.token c.in-External.number said.IsExternal (DataRef c.in-External.number) c.args.content.now c.take_reference.new.content c.take_external.new.content
    c.args.told.now.items c.take_reference.new.told.items c.take_external.new.told.items c.take_external.result r.0 r.1 r.2 c.take_external.ensures
