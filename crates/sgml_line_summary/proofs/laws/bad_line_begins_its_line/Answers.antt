use Rattle.sgml_line_summary.proofs.Begun.{begins_its_line}
use Rattle.sgml_line_summary.proofs.laws.bad_line_begins_its_line.Goals as goal

pub returns : goal.returns
returns c = begins_its_line
