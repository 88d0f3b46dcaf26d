use Rattle.sgml_ambiguity.proofs.Judged.{pair-where-ambiguous}
use Rattle.sgml_ambiguity.proofs.laws.pair_where_ambiguous.Goals as goal

pub returns : goal.returns
returns c = pair-where-ambiguous
