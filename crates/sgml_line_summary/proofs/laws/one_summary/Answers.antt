use Rattle.sgml_line_summary.proofs.One.{one}
use Rattle.sgml_line_summary.proofs.laws.one_summary.Goals as goal

pub returns : goal.returns
returns c = one
