use Rattle.sgml_selfcheck.proofs.One.{one}
use Rattle.sgml_selfcheck.proofs.laws.one_check.Goals as goal

pub returns : goal.returns
returns c = one
