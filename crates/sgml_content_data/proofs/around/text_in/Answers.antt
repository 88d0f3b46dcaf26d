use Rattle.std.specs.Prelude.{ℕ, Option, IfSome}
use Rattle.std.proofs.Common.{sym, ap, ◌∙◌, subst}
use Rattle.sgml_infer.specs.Tables.{IsNumber}
use Rattle.sgml_infer.specs.Trees.{IsTreeOf}
use Rattle.sgml_content_steps.specs.Content.{Content}
use Rattle.sgml_content_data.specs.Roles.{text_of}
use Rattle.sgml_content_data.proofs.around.text_in.Goals as goal

pub returns-in-Some : goal.returns-in-Some
returns-in-Some c =
    let d = c.args.content.now.kept.doctype in
    c.has_text.ensures d (subst (λ (x : Content). IsTreeOf d x.tree) (sym c.content.view_is) c.requires.content.tree)
    (subst (λ (e : Option ℕ). IfSome e (IsNumber d)) c.in-Some.is c.requires.number)
    ∙ ap (text_of d) (sym c.in-Some.is)
