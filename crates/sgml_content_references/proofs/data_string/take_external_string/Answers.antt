use Rattle.std.proofs.Common.{inr, refl}
use Rattle.sgml_content_references.specs.Strings.{string_in}
use Rattle.sgml_content_references.specs.declared.event.Entity.TheVariants as entity
use Rattle.sgml_content_references.specs.Entities.{string_of}
use Rattle.sgml_content_references.proofs.Taken.{string-tells}
use Rattle.sgml_content_references.proofs.data_string.take_external_string.Goals as goal

pub returns : goal.returns
returns c =
    let string = string_in c.args.content.now.kept c.args.texts.now c.args.token.length in
    let e = entity.External c.args.number in
    string-tells e c.args.texts.now c.args.token c.args.content.now c.take_entity.new.content c.args.told.now.items c.take_entity.new.told.items c.take_entity.result
    c.requires.stands (c.take_entity.ensures (string_of string e) (inr (string, refl)))
