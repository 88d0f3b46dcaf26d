use Rattle.std.proofs.Common.{◌∙◌, refl, sym}
use Rattle.sgml_text.specs.declared.reason.Reason.TheVariants as reason
use Rattle.sgml_theory_reading.specs.Pieces.{Data, DataRef}
use Rattle.sgml_content_references.specs.declared.entity.Said.TheVariants as said
use Rattle.sgml_content_references.proofs.Telling.{silent-tells, memory-at, none-step, in-rcdata, not-rcdata, data-next, instructs-tells, opened-tells, shut-tells}
use Rattle.sgml_content_references.proofs.reference.take_said.Goals as goal
use Rattle.sgml_content_references.proofs.reference.take_said.Goals.{in-Ok-open_text, in-Err-open_text}

pub returns-then-is_rcdata : goal.returns-then-is_rcdata
returns-then-is_rcdata c =
    silent-tells c.args.options.now c.args.state c.args.texts.now c.args.token c.args.content.now c.args.content.now c.args.told.now.items c.args.told.now.items _ refl
    (none-step c.args.options.now c.args.state c.args.texts.now c.args.token c.args.content.now c.args.number said.IsExternal reason.EntityKind c.requires.content c.requires.kind c.requires.named
    (sym c.in-IsExternal.is ∙ c.requires.said) (λ outside k t. in-rcdata _ _ (sym c.is_rcdata.ensures ∙ c.if-is_rcdata.true)))

pub returns-then-is_rcdata-2 : goal.returns-then-is_rcdata-2
returns-then-is_rcdata-2 c =
    silent-tells c.args.options.now c.args.state c.args.texts.now c.args.token c.args.content.now c.args.content.now c.args.told.now.items c.args.told.now.items _ refl
    (none-step c.args.options.now c.args.state c.args.texts.now c.args.token c.args.content.now c.args.number (said.Instructs c.in-Instructs.text) reason.EntityKind c.requires.content c.requires.kind
    c.requires.named (sym c.in-Instructs.is ∙ c.requires.said) (λ outside k t. in-rcdata _ _ (sym c.is_rcdata-in-Instructs.ensures ∙ c.if-is_rcdata-2.true)))

pub returns-in-Nothing : goal.returns-in-Nothing
returns-in-Nothing c =
    silent-tells c.args.options.now c.args.state c.args.texts.now c.args.token c.args.content.now c.args.content.now c.args.told.now.items c.args.told.now.items _ refl
    (none-step c.args.options.now c.args.state c.args.texts.now c.args.token c.args.content.now c.args.number said.Nothing reason.Undeclared c.requires.content c.requires.kind c.requires.named
    (sym c.in-Nothing.is ∙ c.requires.said) (λ outside k t. refl))

pub returns-in-TooLong : goal.returns-in-TooLong
returns-in-TooLong c =
    silent-tells c.args.options.now c.args.state c.args.texts.now c.args.token c.args.content.now c.args.content.now c.args.told.now.items c.args.told.now.items _ refl
    (none-step c.args.options.now c.args.state c.args.texts.now c.args.token c.args.content.now c.args.number said.TooLong reason.PiLength c.requires.content c.requires.kind c.requires.named
    (sym c.in-TooLong.is ∙ c.requires.said) (λ outside k t. refl))

pub returns-in-IsData : goal.returns-in-IsData
returns-in-IsData c = (
  refl,
  refl,
  data-next c.args.state c.args.texts.now c.args.token c.args.content.now c.args.number said.IsData (Data c.args.number) c.requires.kind c.requires.named
      (sym c.in-IsData.is ∙ c.requires.said) (λ outside k t. refl),
)

pub returns-else-is_rcdata : goal.returns-else-is_rcdata
returns-else-is_rcdata c = (
  refl,
  refl,
  data-next c.args.state c.args.texts.now c.args.token c.args.content.now c.args.number said.IsExternal (DataRef c.args.number) c.requires.kind c.requires.named
      (sym c.in-IsExternal.is ∙ c.requires.said) (λ outside k t. not-rcdata _ _ (sym c.is_rcdata.ensures ∙ c.if-is_rcdata.false)),
)

pub returns-in-Ok : goal.returns-in-Ok
returns-in-Ok c =
    instructs-tells c.args.options.now c.args.state c.args.texts.now c.args.token c.args.content.now c.instruct.new.content c.args.number c.in-Instructs.text c.args.told.now.items c.instruct.new.told.items
    c.requires.content c.requires.kind c.requires.named (sym c.in-Instructs.is ∙ c.requires.said) (sym c.is_rcdata-in-Instructs.ensures ∙ c.if-is_rcdata-2.false) c.in-Ok.ensures.ok c.in-Ok.ensures.told

pub returns-in-Err : goal.returns-in-Err
returns-in-Err c =
    silent-tells c.args.options.now c.args.state c.args.texts.now c.args.token c.args.content.now c.instruct.new.content c.args.told.now.items c.instruct.new.told.items _ c.in-Err.ensures.silent
    (memory-at c.args.options.now c.args.state c.args.texts.now c.args.token c.args.content.now c.instruct.new.content c.requires.content c.in-Err.ensures.left)

pub returns-after-open_text : goal.returns-after-open_text
returns-after-open_text c =
    let reads = sym c.in-Reads.is ∙ c.requires.said in
    elim c.match-open_text.branch [
      | in-Ok-open_text w ↦
          opened-tells c.args.options.now c.args.state c.args.texts.now c.args.token _ c.args.content.now c.open_text.new.kept c.args.number c.args.told.now.items c.match-open_text.result
          c.content.view_is w.result-is c.requires.content c.requires.kind c.requires.named reads w.in-Ok-open_text.ensures.ok
      | in-Err-open_text w ↦
          shut-tells c.args.options.now c.args.state c.args.texts.now c.args.token _ c.args.content.now c.open_text.new.kept c.args.number c.args.told.now.items w.in-Err-open_text.stop c.match-open_text.result
          c.content.view_is w.result-is c.requires.content c.requires.kind c.requires.named reads w.in-Err-open_text.ensures.err w.in-Err-open_text.ensures.left
    ]
