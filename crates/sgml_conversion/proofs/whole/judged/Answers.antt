use Rattle.sgml_conversion.proofs.Reaching.{judged-as}
use Rattle.std.proofs.Common.{sym, ◌∙◌}
use Rattle.sgml_conversion.proofs.whole.judged.Goals as goal

pub returns-in-Some-clause-judged : goal.returns-in-Some-clause-judged
returns-in-Some-clause-judged c = judged-as c.args.dtd.now c.args.events.now c.check_ids.result c.in-Some.ending c.check_ids.ensures (sym c.ending_of.ensures ∙ c.in-Some.is)
