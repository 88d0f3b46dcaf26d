use Rattle.std.proofs.Common.{sym, subst}
use Rattle.sgml_shortref.specs.Matches.{Answers, answer, matched}
use Rattle.sgml_shortref.proofs.Deciding.{matched-answers, answers-one}
use Rattle.sgml_shortref.proofs.laws.matched_is_told.Goals as goal

pub returns : goal.returns
returns c = λ ended text told. (
  λ h. answers-one ended answer text told (matched ended text) h (matched-answers ended text),
  λ e. subst (λ m. Answers ended answer text m) (sym e) (matched-answers ended text),
)
