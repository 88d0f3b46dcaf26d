use Rattle.sgml_line_summary.proofs.Each.{each}
use Rattle.sgml_line_summary.proofs.laws.each_file_is_summarized.Goals as goal

pub returns : goal.returns
returns c = each
