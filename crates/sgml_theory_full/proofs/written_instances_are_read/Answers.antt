use Rattle.sgml_theory_full.proofs.Ended.{instances-are-read}
use Rattle.sgml_theory_full.proofs.written_instances_are_read.Goals as goal

pub returns : goal.returns
returns c = instances-are-read
