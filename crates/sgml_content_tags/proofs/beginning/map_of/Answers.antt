use Rattle.std.proofs.Common.{sym, subst}
use Rattle.sgml_infer.specs.Trees.{IsTreeOf}
use Rattle.sgml_content_steps.specs.Content.{Content}
use Rattle.sgml_content_tags.proofs.beginning.map_of.Goals as goal

pub returns : goal.returns
returns c =
    c.map_of.ensures c.args.content.now.kept.doctype
    (subst (λ (x : Content). IsTreeOf x.kept.doctype x.tree) (sym c.content.view_is) c.requires.of_type) c.requires.number
