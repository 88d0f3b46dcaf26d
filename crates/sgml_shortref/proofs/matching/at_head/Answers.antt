use Rattle.std.proofs.Common.{sym, subst}
use Rattle.sgml_shortref.specs.Matches.{Answers, answer}
use Rattle.sgml_shortref.proofs.Deciding.{matched-answers}
use Rattle.sgml_shortref.proofs.matching.at_head.Goals as goal

pub returns : goal.returns
returns c =
    subst (λ m. Answers c.args.ended answer c.args.text.now m) (sym c.head_of.ensures) (matched-answers c.args.ended c.args.text.now)
