use Rattle.std.proofs.Common.{ap, ◌∙◌}
use Rattle.sgml_content_steps.specs.contracts.content.Content.{the_view}
use Rattle.sgml_content_tags.proofs.Emptied.{empty-before, empty-type}
use Rattle.sgml_content_tags.proofs.empty.empty_start.Goals as goal

pub returns-in-Some : goal.returns-in-Some
returns-in-Some c = empty-before c.args.content.now c.in-Some.number c.requires c.in-Some.ensures.number c.in-Some.ensures.named

pub returns-in-None : goal.returns-in-None
returns-in-None c =
    empty-type _ c.args.content.now c.of_doctype.result (ap the_view c.content-inside.view_is ∙ c.content.view_is) c.in-None.ensures.named c.of_doctype.ensures
