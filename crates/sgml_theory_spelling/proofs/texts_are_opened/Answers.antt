use Rattle.sgml_theory_spelling.proofs.Opened.{unopened-is-refused, files-are-texts}
use Rattle.sgml_theory_spelling.proofs.texts_are_opened.Goals as goal

pub returns : goal.returns
returns c = record { refused = unopened-is-refused; files = files-are-texts }
