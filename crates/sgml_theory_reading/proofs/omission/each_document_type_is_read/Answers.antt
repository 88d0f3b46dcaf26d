use Rattle.sgml_theory_reading.proofs.Prologs.{prolog-is}
use Rattle.sgml_theory_reading.proofs.omission.each_document_type_is_read.Goals as goal

pub returns : goal.returns
returns c = prolog-is
