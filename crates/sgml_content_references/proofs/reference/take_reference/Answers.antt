use Rattle.std.proofs.Common.{◌∙◌, ap, refl, sym}
use Rattle.sgml_content_steps.specs.Content.{Content}
use Rattle.sgml_content_references.specs.Referring.{referred_in}
use Rattle.sgml_content_references.proofs.Telling.{silent-tells, unnamed-step, memory-at}
use Rattle.sgml_content_references.proofs.reference.take_reference.Goals as goal

pub returns-in-Ok-None : goal.returns-in-Ok-None
returns-in-Ok-None c =
    silent-tells c.args.options.now c.args.state c.args.texts.now c.args.token c.args.content.now c.args.content.now c.args.told.now.items c.args.told.now.items _ refl
    (unnamed-step c.args.options.now c.args.state c.args.texts.now c.args.token c.args.content.now c.requires.content c.requires.kind
    (ap (λ (z : Content). referred_in z.kept c.args.texts.now c.args.token.length) (sym c.content.view_is) ∙ (sym c.in-Ok-None.ensures ∙ c.in-Ok-None.field-0-is)))

pub returns-in-Err-said_in : goal.returns-in-Err-said_in
returns-in-Err-said_in c =
    silent-tells c.args.options.now c.args.state c.args.texts.now c.args.token c.args.content.now c.args.content.now c.args.told.now.items c.args.told.now.items _ refl
    (memory-at c.args.options.now c.args.state c.args.texts.now c.args.token c.args.content.now c.args.content.now c.requires.content refl)

pub returns-in-Err : goal.returns-in-Err
returns-in-Err c =
    silent-tells c.args.options.now c.args.state c.args.texts.now c.args.token c.args.content.now c.args.content.now c.args.told.now.items c.args.told.now.items _ refl
    (memory-at c.args.options.now c.args.state c.args.texts.now c.args.token c.args.content.now c.args.content.now c.requires.content refl)
