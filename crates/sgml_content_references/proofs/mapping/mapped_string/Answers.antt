use Rattle.std.proofs.Common.{◌∙◌, ap}
use Rattle.sgml_declared.specs.theory_spelling.Content.{entity_of_string}
use Rattle.sgml_content_steps.specs.Content.{Content}
use Rattle.sgml_content_references.specs.Strings.{mapped_to, mapped_in}
use Rattle.sgml_content_references.proofs.mapping.mapped_string.Goals as goal

pub returns : goal.returns
returns c =
    c.mapped_by.ensures
    ∙ (ap (λ m. mapped_to c.content.inside.kept.doctype (entity_of_string c.content.inside.kept.doctype m c.args.string)) c.map.ensures
    ∙ ap (λ (z : Content). mapped_in z c.args.string) c.content.view_is)
