use Rattle.std.proofs.Common.{sym, ap, ◌∙◌}
use Rattle.sgml_content_steps.specs.Content.{Content}
use Rattle.sgml_content_data.specs.Roles.{text_of}
use Rattle.sgml_content_data.proofs.Texts.{around-is}
use Rattle.sgml_content_data.proofs.around.look_around.Goals as goal

pub returns : goal.returns
returns c =
    around-is c.args.content.now _ c.innermost.result c.text_in.result c.in_text_section.result c.requires c.content.view_is c.innermost.ensures.open
    (c.text_in.ensures ∙ ap (λ (x : Content). text_of x.kept.doctype c.innermost.result) (sym c.content.view_is)) c.in_text_section.ensures
