use Rattle.std.proofs.Common.{◌∙◌, ap}
use Rattle.sgml_content_steps.specs.Content.{Content}
use Rattle.sgml_content_steps.specs.contracts.content.Content.{the_view}
use Rattle.sgml_content_steps.proofs.Valued.{listless-valued, start-valued, start-unvalued, start-sets-none}
use Rattle.sgml_content_steps.proofs.starting.values_of_start.Goals as goal

pub returns-in-Ok-clause-ok : goal.returns-in-Ok-clause-ok
returns-in-Ok-clause-ok c =
    let e = ap the_view c.content-inside.view_is ∙ c.content.view_is in
    start-valued c.args.content.now.kept c.args.content.now.currents _ _ c.args.element _ _ _ c.in-Ok.start c.requires.number
    c.syntax.ensures
    (ap (λ (z : Content). z.kept.doctype) e) (ap (λ (z : Content). z.currents) e) c.in-Ok.ensures.ok

pub returns-in-Ok-clause-currents : goal.returns-in-Ok-clause-currents
returns-in-Ok-clause-currents c =
    let e = ap the_view c.content-inside.view_is ∙ c.content.view_is in
    start-sets-none c.args.content.now.kept c.args.content.now.currents _ c.start_values.new.currents c.args.element _ _ _ c.in-Ok.start
    (ap (λ (z : Content). z.kept.doctype) e) (ap (λ (z : Content). z.currents) e) c.in-Ok.ensures.ok

pub returns-in-Err-Refused-clause-err : goal.returns-in-Err-Refused-clause-err
returns-in-Err-Refused-clause-err c =
    let e = ap the_view c.content-inside.view_is ∙ c.content.view_is in
    start-unvalued c.args.content.now.kept c.args.content.now.currents _ c.args.element 0 _ _ c.in-Err-Refused.reason c.requires.number c.syntax.ensures
    (ap (λ (z : Content). z.kept.doctype) e) (ap (λ (z : Content). z.currents) e)
    (rw c.in-Err-Refused.field-0-is at c.in-Err-Refused.ensures.err)

pub returns-then-not-has_list-clause-ok : goal.returns-then-not-has_list-clause-ok
returns-then-not-has_list-clause-ok c =
    listless-valued c.args.content.now _ c.args.element c.has_list.result _ c.requires.content (ap the_view c.content-inside.view_is ∙ c.content.view_is) c.requires.number c.has_list.ensures c.if-not-has_list.true (c.of.ensures ∙ c.new.ensures.items)
