use Rattle.std.proofs.Common.{sym, subst}
use Rattle.sgml_infer.specs.Trees.{IsTreeOf}
use Rattle.sgml_content_steps.specs.Content.{Content}
use Rattle.sgml_content_tags.proofs.beginning.is_void.Goals as goal

pub returns : goal.returns
returns c =
    let d = c.args.content.now.kept.doctype in
    c.is_void.ensures d (subst (λ (x : Content). IsTreeOf d x.tree) (sym c.content.view_is) c.requires.of_type) c.requires.number
