use Rattle.std.proofs.Common.{◌∙◌, ap, length}
use Rattle.sgml_entity.specs.Stack.{offset_of}
use Rattle.sgml_declared.specs.theory_standing.Kept.{Kept}
use Rattle.sgml_prolog_steps.proofs.Referring.{opened-step, open-refused-step, open-wanted-step, back-is}
use Rattle.sgml_prolog_steps.proofs.references.open_referred.Goals as goal

pub returns-in-Ok : goal.returns-in-Ok
returns-in-Ok c =
    opened-step c.args.options.now c.args.texts.now c.args.token c.args.kept.now c.open_after.new.kept c.args.number c.requires.kept c.requires.going_on c.requires.sort c.requires.named c.requires.reads
    c.in-Ok.ensures.opens c.in-Ok.ensures.pushed c.in-Ok.ensures.rest

pub returns-in-Err-Refused : goal.returns-in-Err-Refused
returns-in-Err-Refused c =
    open-refused-step c.args.options.now c.args.texts.now c.args.token c.args.kept.now c.go_back.new.kept c.open_after.new.kept.stack c.args.number c.in-Err-Refused.reason c.in-Err-Refused.field-0
    c.requires.kept c.requires.going_on c.requires.sort c.requires.named c.requires.reads c.in-Err-Refused.field-0-is
    c.in-Err-Refused.ensures.opens
    (back-is c.mark-mark.result c.args.kept.now c.open_after.new.kept c.go_back.new.kept c.args.token.length
    (c.mark-mark.ensures.depth ∙ ap (λ (k : Kept). length k.stack.places) c.kept.view_is) (c.mark-mark.ensures.at ∙ ap (λ (k : Kept). offset_of k.stack.places) c.kept.view_is)
    (c.mark-mark.ensures.spent ∙ ap (λ (k : Kept). k.stack.spent) c.kept.view_is) c.in-Err-Refused.ensures.rest c.in-Err-Refused.ensures.err c.go_back.ensures)

pub returns-in-Err-Wanted : goal.returns-in-Err-Wanted
returns-in-Err-Wanted c =
    open-wanted-step c.args.options.now c.args.texts.now c.args.token c.args.kept.now c.go_back-in-Err-Wanted.new.kept c.open_after.new.kept.stack c.args.number c.in-Err-Wanted.file c.in-Err-Wanted.field-0
    c.requires.kept c.requires.going_on c.requires.sort c.requires.named c.requires.reads c.in-Err-Wanted.field-0-is
    c.in-Err-Wanted.ensures.opens
    (back-is c.mark-mark.result c.args.kept.now c.open_after.new.kept c.go_back-in-Err-Wanted.new.kept c.args.token.length
    (c.mark-mark.ensures.depth ∙ ap (λ (k : Kept). length k.stack.places) c.kept.view_is) (c.mark-mark.ensures.at ∙ ap (λ (k : Kept). offset_of k.stack.places) c.kept.view_is)
    (c.mark-mark.ensures.spent ∙ ap (λ (k : Kept). k.stack.spent) c.kept.view_is) c.in-Err-Wanted.ensures.rest c.in-Err-Wanted.ensures.err c.go_back-in-Err-Wanted.ensures)
