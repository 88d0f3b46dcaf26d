use Rattle.std.proofs.Common.{ap, ◌∙◌}
use Rattle.sgml_content_steps.specs.contracts.content.Content.{the_view}
use Rattle.sgml_content_tags.proofs.Valuing.{unvalued-in}
use Rattle.sgml_content_tags.proofs.values.values_of.Goals as goal

pub returns-in-Err-clause-err : goal.returns-in-Err-clause-err
returns-in-Err-clause-err c =
    unvalued-in _ c.args.content.now _ c.args.texts.now c.args.number c.args.tag c.in-Err.error
    (ap the_view c.content-inside.view_is ∙ c.content.view_is) c.syntax.ensures c.in-Err.ensures.err
