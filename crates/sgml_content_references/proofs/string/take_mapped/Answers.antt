use Rattle.std.proofs.Common.{◌∙◌, refl, sym}
use Rattle.sgml_text.specs.declared.reason.Reason.TheVariants as reason
use Rattle.sgml_theory_reading.specs.Pieces.{ToData, ToExternalData}
use Rattle.sgml_content_references.specs.declared.entity.Said.TheVariants as said
use Rattle.sgml_content_references.proofs.Standing.{quietly, memory-in, none-in, data-stands, text-taken, text-left, instruction-told}
use Rattle.sgml_content_references.proofs.string.take_mapped.Goals as goal

pub returns-in-Nothing : goal.returns-in-Nothing
returns-in-Nothing c =
    quietly c.args.options.now c.args.texts.now c.args.token c.args.content.now c.args.content.now c.args.told.now.items c.args.told.now.items _ refl
    (none-in c.args.options.now c.args.texts.now c.args.token c.args.content.now c.args.string c.args.number said.Nothing reason.Undeclared c.requires.content c.requires.kind c.requires.named
    (sym c.in-Nothing.is ∙ c.requires.said) (λ outside k on. refl))

pub returns-in-TooLong : goal.returns-in-TooLong
returns-in-TooLong c =
    quietly c.args.options.now c.args.texts.now c.args.token c.args.content.now c.args.content.now c.args.told.now.items c.args.told.now.items _ refl
    (none-in c.args.options.now c.args.texts.now c.args.token c.args.content.now c.args.string c.args.number said.TooLong reason.PiLength c.requires.content c.requires.kind c.requires.named
    (sym c.in-TooLong.is ∙ c.requires.said) (λ outside k on. refl))

pub returns-in-IsData : goal.returns-in-IsData
returns-in-IsData c = (
  refl,
  refl,
  sym c.requires.said ∙ c.in-IsData.is,
  data-stands c.args.texts.now c.args.token c.args.content.now c.args.string c.args.number said.IsData (ToData c.args.number) c.requires.content c.requires.kind c.requires.named
      (sym c.in-IsData.is ∙ c.requires.said) (λ outside k on. refl),
)

pub returns-in-IsExternal : goal.returns-in-IsExternal
returns-in-IsExternal c = (
  refl,
  refl,
  sym c.requires.said ∙ c.in-IsExternal.is,
  data-stands c.args.texts.now c.args.token c.args.content.now c.args.string c.args.number said.IsExternal (ToExternalData c.args.number) c.requires.content c.requires.kind c.requires.named
      (sym c.in-IsExternal.is ∙ c.requires.said) (λ outside k on. refl),
)

pub returns-in-Ok : goal.returns-in-Ok
returns-in-Ok c =
    instruction-told c.args.options.now c.args.texts.now c.args.token _ c.args.content.now c.instruct.new.content c.args.string c.args.number c.in-Instructs.text c.begins_record-starts.result c.args.told.now.items c.instruct.new.told.items
    c.content.view_is c.requires.content c.requires.kind c.requires.named (sym c.in-Instructs.is ∙ c.requires.said) c.begins_record-starts.ensures c.in-Ok.ensures.ok c.in-Ok.ensures.told

pub returns-in-Err : goal.returns-in-Err
returns-in-Err c =
    quietly c.args.options.now c.args.texts.now c.args.token c.args.content.now c.instruct.new.content c.args.told.now.items c.instruct.new.told.items _ c.in-Err.ensures.silent
    (memory-in c.args.options.now c.args.texts.now c.args.token c.args.content.now c.instruct.new.content c.requires.content c.in-Err.ensures.left)

pub returns-in-Ok-open_text : goal.returns-in-Ok-open_text
returns-in-Ok-open_text c =
    text-taken c.args.options.now c.args.texts.now c.args.token _ c.args.content.now c.start_record.new.content c.open_text.new.kept c.args.string c.args.number c.begins_record-starts.result c.args.told.now.items
    c.content.view_is c.requires.content c.requires.kind c.requires.named (sym c.in-Reads.is ∙ c.requires.said) c.begins_record-starts.ensures c.in-Ok-open_text.ensures.ok c.start_record.ensures

pub returns-in-Err-open_text : goal.returns-in-Err-open_text
returns-in-Err-open_text c =
    text-left c.args.options.now c.args.texts.now c.args.token _ c.args.content.now c.open_text.new.kept c.args.string c.args.number c.args.told.now.items c.in-Err-open_text.stop
    c.content.view_is c.requires.content c.requires.kind c.requires.named (sym c.in-Reads.is ∙ c.requires.said) c.in-Err-open_text.ensures.err c.in-Err-open_text.ensures.left
