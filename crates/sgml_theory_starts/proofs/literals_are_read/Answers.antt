use Rattle.sgml_theory_starts.proofs.Answered.{literals-are-read}
use Rattle.sgml_theory_starts.proofs.literals_are_read.Goals as goal

pub returns : goal.returns
returns c = literals-are-read
