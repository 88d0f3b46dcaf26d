use Rattle.std.proofs.Common.{sym, ◌∙◌, ap, subst}
use Rattle.sgml_theory_starts.specs.theory_standing.Kept.{Kept}
use Rattle.sgml_prolog_steps.specs.Found.{innermost}
use Rattle.sgml_content_steps.specs.Modes.{is_of_instance, mode_by, IsModeInside}
use Rattle.sgml_content_steps.proofs.Modes.{mode-inside, mode-of-instance}
use Rattle.sgml_content_steps.proofs.scanned.mode_in.Goals as goal

pub returns-clause-mode : goal.returns-clause-mode
returns-clause-mode c =
    let k = c.args.kept.now in
    subst (IsModeInside k.doctype c.args.element (innermost k.sections)) (sym (c.mode_by.ensures ∙ ap (mode_by c.args.mode) (c.innermost.ensures ∙ ap (λ (x : Kept). innermost x.sections) c.kept.view_is)))
    (mode-inside k.doctype c.args.element (innermost k.sections) c.args.mode c.requires)

pub returns-clause-instance : goal.returns-clause-instance
returns-clause-instance c =
    ap is_of_instance c.mode_by.ensures ∙ mode-of-instance c.args.kept.now.doctype c.args.element c.args.mode c.innermost.result c.requires
