use Rattle.std.proofs.Common.{ap, ◌∙◌}
use Rattle.sgml_content_steps.specs.contracts.content.Content.{the_view}
use Rattle.sgml_content_tags.proofs.Emptied.{innermost-before}
use Rattle.sgml_content_tags.proofs.empty.before.Goals as goal

pub returns-then-syntax-clause-named : goal.returns-then-syntax-clause-named
returns-then-syntax-clause-named c =
    innermost-before _ c.args.content.now _ c.innermost.result (ap the_view c.content-inside.view_is ∙ c.content.view_is) c.syntax.ensures c.if-syntax.true c.innermost.ensures.open
