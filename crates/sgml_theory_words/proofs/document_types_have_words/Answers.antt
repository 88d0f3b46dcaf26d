use Rattle.sgml_theory_words.proofs.Reading.{document-types-have-words}
use Rattle.sgml_theory_words.proofs.document_types_have_words.Goals as goal

pub returns : goal.returns
returns c = document-types-have-words
