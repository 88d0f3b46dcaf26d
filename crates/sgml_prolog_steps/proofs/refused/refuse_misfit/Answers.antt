use Rattle.std.proofs.Common.{◌∙◌, ap, if◌then◌else◌}
use Rattle.sgml_text.specs.declared.reason.Reason.TheVariants.{NoDoctype, DeclarationSyntax}
use Rattle.sgml_declared.specs.theory_spelling.Decided.{is_before}
use Rattle.sgml_declared.specs.theory_standing.Kept.{Kept}
use Rattle.sgml_prolog_steps.proofs.Closing.{misfit-step}
use Rattle.sgml_prolog_steps.proofs.refused.refuse_misfit.Goals as goal

pub returns : goal.returns
returns c =
    misfit-step c.args.texts.now c.args.token c.args.kept.now c.reason_of_misfit.result c.requires.kept c.requires.going_on c.requires.sort
    (c.reason_of_misfit.ensures ∙ ap (λ t. if t then NoDoctype else DeclarationSyntax) (c.is_before.ensures ∙ ap (λ (k : Kept). is_before k.stage) c.kept.view_is))
