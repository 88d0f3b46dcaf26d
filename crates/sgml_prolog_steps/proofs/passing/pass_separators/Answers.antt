use Rattle.std.proofs.Common.{ap, sym, ◌∙◌}
use Rattle.sgml_declared.specs.theory_standing.Kept.{Kept}
use Rattle.sgml_declared.specs.Taking.{rest_at_top}
use Rattle.sgml_prolog_steps.specs.Found.{rest_in}
use Rattle.sgml_prolog_steps.proofs.Separating.{run_length, separators-passed}
use Rattle.sgml_prolog_steps.proofs.passing.pass_separators.Goals as goal

pub returns-then-n-gt0-clause-passed : goal.returns-then-n-gt0-clause-passed
returns-then-n-gt0-clause-passed g c =
    let unread = c.unread.ensures.value
    ∙ (ap (λ es. rest_at_top es c.args.texts.now c.kept.inside.stack) c.entities.ensures.entities ∙ ap (λ (k : Kept). rest_in k c.args.texts.now) c.kept.view_is) in
    separators-passed c.args.texts.now c.separators-n.result c.args.kept.now c.read_over.new.kept c.requires.kept c.requires.going_on
    (sym c.is_between.ensures ∙ c.if-not-is_between.false) (c.separators-n.ensures.value ∙ ap run_length unread) c.if-n-gt0.true c.read_over.ensures
