use Rattle.std.proofs.Common.{◌∙◌, sym, ap}
use Rattle.sgml_text.specs.declared.reason.Reason.TheVariants as reason
use Rattle.sgml_prolog_steps.proofs.Referring.{unnamed-step, said-step, instructs-step, reason_said}
use Rattle.sgml_prolog_steps.proofs.references.take_reference.Goals as goal

pub returns-in-Ok-None : goal.returns-in-Ok-None
returns-in-Ok-None c =
    unnamed-step c.args.options.now c.args.texts.now c.args.token c.args.kept.now c.requires.kept c.requires.going_on c.requires.sort
    (sym c.in-Ok-None.ensures ∙ c.in-Ok-None.field-0-is)

pub returns-in-Nothing : goal.returns-in-Nothing
returns-in-Nothing c =
    said-step c.args.options.now c.args.texts.now c.args.token c.args.kept.now c.in-Ok-Some.number c.in-Ok.told reason.Undeclared c.requires.kept c.requires.going_on c.requires.sort
    (sym c.in-Ok-Some.ensures ∙ c.in-Ok-Some.field-0-is) c.in-Ok.ensures (ap reason_said c.in-Nothing.is)

pub returns-in-TooLong : goal.returns-in-TooLong
returns-in-TooLong c =
    said-step c.args.options.now c.args.texts.now c.args.token c.args.kept.now c.in-Ok-Some.number c.in-Ok.told reason.PiLength c.requires.kept c.requires.going_on c.requires.sort
    (sym c.in-Ok-Some.ensures ∙ c.in-Ok-Some.field-0-is) c.in-Ok.ensures (ap reason_said c.in-TooLong.is)

pub returns-in-Other : goal.returns-in-Other
returns-in-Other c =
    said-step c.args.options.now c.args.texts.now c.args.token c.args.kept.now c.in-Ok-Some.number c.in-Ok.told reason.EntityKind c.requires.kept c.requires.going_on c.requires.sort
    (sym c.in-Ok-Some.ensures ∙ c.in-Ok-Some.field-0-is) c.in-Ok.ensures (ap reason_said c.in-Other.is)

pub returns-in-Instructs : goal.returns-in-Instructs
returns-in-Instructs c =
    instructs-step c.args.options.now c.args.texts.now c.args.token c.args.kept.now c.begin_over.new.kept c.in-Ok-Some.number c.in-Instructs.text c.requires.kept c.requires.going_on c.requires.sort
    (sym c.in-Ok-Some.ensures ∙ c.in-Ok-Some.field-0-is) (sym c.in-Instructs.is ∙ c.in-Ok.ensures) c.begin_over.ensures
