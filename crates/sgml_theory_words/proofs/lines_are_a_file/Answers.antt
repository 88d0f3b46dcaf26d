use Rattle.sgml_theory_words.proofs.Front.{lines-are-a-file}
use Rattle.sgml_theory_words.proofs.lines_are_a_file.Goals as goal

pub returns : goal.returns
returns c = lines-are-a-file
