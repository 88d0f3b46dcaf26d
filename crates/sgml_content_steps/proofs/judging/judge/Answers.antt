use Rattle.std.proofs.Common.{◌∙◌, ap}
use Rattle.sgml_content_steps.specs.contracts.content.Content.{the_view}
use Rattle.sgml_content_steps.proofs.Walked.{held-still}
use Rattle.sgml_content_steps.proofs.judging.judge.Goals as goal

pub returns-in-Err-clause-holds : goal.returns-in-Err-clause-holds
returns-in-Err-clause-holds c x h =
    c.judge_run.ensures.holds x
    (held-still _ c.args.content.now c.judge_plain.new.self x (ap the_view c.content-inside.view_is ∙ c.content.view_is) c.in-Err.ensures.context h)
