use Rattle.std.proofs.Common.{subst, sym}
use Rattle.sgml_markup.proofs.Walking.{Sound, step-sound}
use Rattle.sgml_markup.proofs.tags.walked.Goals as goal

pub returns-clause-behind : goal.returns-clause-behind
returns-clause-behind c =
    let a = c.args in
    let sound = subst (λ step. Sound a.at step) (sym c.tag_step-step.ensures)
    (step-sound a.syntax.now a.closing a.at a.walk.state a.b c.requires.behind) in
    sound.next
