use Rattle.sgml_theory_spelling.proofs.Valued.{rows-are-ranked}
use Rattle.sgml_theory_spelling.proofs.Named.{named-is-numbered}
use Rattle.sgml_theory_spelling.proofs.values_judge.Goals as goal

pub returns : goal.returns
returns c = record { rows = rows-are-ranked; attribute = named-is-numbered }
