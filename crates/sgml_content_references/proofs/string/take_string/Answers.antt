use Rattle.std.proofs.Common.{◌∙◌, refl, sym}
use Rattle.sgml_content_references.proofs.Stringing.{ordinary-next}
use Rattle.sgml_content_references.proofs.Standing.{quietly, undeclared-in, memory-in}
use Rattle.sgml_content_references.proofs.string.take_string.Goals as goal

pub returns-in-Nothing : goal.returns-in-Nothing
returns-in-Nothing c = (
  refl,
  refl,
  ordinary-next c.args.texts.now c.args.token c.args.content.now c.args.string c.requires.content c.requires.kind (sym c.mapped_string.ensures ∙ c.in-Nothing.is),
)

pub returns-in-Undeclared : goal.returns-in-Undeclared
returns-in-Undeclared c =
    quietly c.args.options.now c.args.texts.now c.args.token c.args.content.now c.args.content.now c.args.told.now.items c.args.told.now.items _ refl
    (undeclared-in c.args.options.now c.args.texts.now c.args.token c.args.content.now c.args.string c.requires.content c.requires.kind (sym c.mapped_string.ensures ∙ c.in-Undeclared.is))

pub returns-in-Err : goal.returns-in-Err
returns-in-Err c =
    quietly c.args.options.now c.args.texts.now c.args.token c.args.content.now c.args.content.now c.args.told.now.items c.args.told.now.items _ refl
    (memory-in c.args.options.now c.args.texts.now c.args.token c.args.content.now c.args.content.now c.requires.content refl)
