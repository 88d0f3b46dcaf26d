use Rattle.std.proofs.Common.{sym, subst, false}
use Rattle.sgml_delim.specs.Answers.{Answers, answer}
use Rattle.sgml_delim.specs.Verdicts.{recognised}
use Rattle.sgml_delim.proofs.Verdicts.{recognised-answers, recognised-one}
use Rattle.sgml_delim.proofs.laws.told_by_verdicts.Goals as goal

pub returns : goal.returns
returns c = λ s mode net bytes told. (
  λ h. recognised-one false (answer s mode net) bytes told (recognised s mode net bytes) h (recognised-answers s mode net bytes),
  λ e. subst (λ r. Answers false (answer s mode net) bytes r) (sym e) (recognised-answers s mode net bytes),
)
