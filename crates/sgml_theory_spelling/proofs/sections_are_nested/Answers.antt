use Rattle.sgml_theory_spelling.proofs.Nested.{read-sections-are-nested}
use Rattle.sgml_theory_spelling.proofs.sections_are_nested.Goals as goal

pub returns : goal.returns
returns c = read-sections-are-nested
