use Rattle.std.proofs.Common.{subst}
use Rattle.sgml_delim.proofs.Deciding.{rest-from}
use Rattle.sgml_shortref.specs.Matches.{Answers, answer}
use Rattle.sgml_shortref.proofs.matching.longest.Goals as goal

pub returns : goal.returns
returns c =
    subst (λ r. Answers c.args.ended answer r c.at_head.result) (rest-from c.args.at c.min.result c.args.text.now c.min.ensures)
    c.at_head.ensures
