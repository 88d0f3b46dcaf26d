use Rattle.std.proofs.Common.{subst}
use Rattle.sgml_delim.specs.Answers.{Answers, answer}
use Rattle.sgml_delim.proofs.Deciding.{rest-from}
use Rattle.sgml_delim.proofs.recognising.recognise.Goals as goal

pub returns : goal.returns
returns c =
    subst (λ r. Answers c.args.ended (answer c.args.syntax.now c.args.mode c.args.net) r c.delimiter_at.result)
    (rest-from c.args.at c.min.result c.args.text.now c.min.ensures)
    c.delimiter_at.ensures
