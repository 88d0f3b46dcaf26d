use Rattle.sgml_gen.proofs.Counts.{sizes}
use Rattle.sgml_gen.proofs.book.sizes_of_documents.Goals as goal

pub returns : goal.returns
returns c = sizes
