use Rattle.std.proofs.Common.{◌∙◌, ap}
use Rattle.sgml_content_steps.specs.contracts.content.Content.{the_view}
use Rattle.sgml_content_steps.proofs.Walked.{run-is, start-refuses, walk-refuses}
use Rattle.sgml_content_steps.proofs.judging.judge_run.Goals as goal

pub returns-in-Ok-values_of_starts-clause-ok : goal.returns-in-Ok-values_of_starts-clause-ok
returns-in-Ok-values_of_starts-clause-ok c =
    run-is _ c.args.content.now c.judge_run.new.self c.values_of_starts.new.content c.args.visible
    (record { chain = c.in-Ok.chain; values = c.in-Ok-values_of_starts.values }) (ap the_view c.content-inside.view_is ∙ c.content.view_is)
    c.in-Ok.ensures.ok c.in-Ok-values_of_starts.ensures.ok c.in-Ok-values_of_starts.ensures.as_many c.in-Ok-values_of_starts.ensures.same
    c.in-Ok-values_of_starts.ensures.currents

pub returns-in-Err-values_of_starts-clause-refused : goal.returns-in-Err-values_of_starts-clause-refused
returns-in-Err-values_of_starts-clause-refused c r e x h =
    start-refuses _ c.args.content.now c.judge_run.new.self c.args.visible c.in-Ok.chain x r c.in-Err-values_of_starts.stop (ap the_view c.content-inside.view_is ∙ c.content.view_is)
    c.in-Ok.ensures.ok c.in-Ok.ensures.context
    c.in-Err-values_of_starts.ensures.err e h

pub returns-in-Err-clause-refused : goal.returns-in-Err-clause-refused
returns-in-Err-clause-refused c r e x h =
    walk-refuses _ c.args.content.now c.args.visible x c.in-Err.reason r (ap the_view c.content-inside.view_is ∙ c.content.view_is)
    c.in-Err.ensures.refused (cc e) h
