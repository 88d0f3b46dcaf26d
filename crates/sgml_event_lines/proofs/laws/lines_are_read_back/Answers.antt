use Rattle.sgml_event_lines.proofs.ReadBack.{are_read_back}
use Rattle.sgml_event_lines.proofs.laws.lines_are_read_back.Goals as goal

pub returns : goal.returns
returns c = are_read_back
