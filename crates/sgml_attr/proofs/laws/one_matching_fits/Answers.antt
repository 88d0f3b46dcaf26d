use Rattle.sgml_attr.proofs.Matched.{matched-once}
use Rattle.sgml_attr.proofs.laws.one_matching_fits.Goals as goal

pub returns : goal.returns
returns c = λ n named a b p q. matched-once n named a b p q
