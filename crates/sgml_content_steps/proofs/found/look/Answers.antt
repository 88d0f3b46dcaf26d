use Rattle.std.proofs.Common.{sym, ◌∙◌, ap, subst}
use Rattle.sgml_theory_starts.specs.theory_standing.Kept.{Kept}
use Rattle.sgml_theory_starts.specs.declaring.Taking.{rest_at_top}
use Rattle.sgml_content_steps.specs.Found.{IsToldOf}
use Rattle.sgml_content_steps.proofs.Told.{found-there}
use Rattle.sgml_content_steps.proofs.found.look.Goals as goal

pub returns-clause-found : goal.returns-clause-found
returns-clause-found g c =
    found-there c.args.kept.now _ c.args.state c.args.texts.now c.args.ended c.unread-bytes.result.now c.may_grow-grows.result c.told_of.result
    (record {
      instance = c.requires.kept;
      mode = c.requires.mode;
      same = c.kept.view_is;
      bytes_are = sym (c.unread-bytes.ensures.value ∙ ap (λ es. rest_at_top es c.args.texts.now c.kept.inside.stack) c.entities.ensures.entities);
      grows_is = c.may_grow-grows.ensures;
    })
    (subst (λ s. IsToldOf s c.args.state c.unread-bytes.result.now c.may_grow-grows.result c.told_of.result)
    (c.syntax.ensures ∙ ap (λ (z : Kept). z.doctype.syntax) c.kept.view_is) c.told_of.ensures.told)
