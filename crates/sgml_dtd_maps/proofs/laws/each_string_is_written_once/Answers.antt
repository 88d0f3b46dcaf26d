use Rattle.sgml_dtd_maps.proofs.Writing.{found-written, only-written}
use Rattle.sgml_dtd_maps.proofs.laws.each_string_is_written_once.Goals as goal

pub returns-clause-found : goal.returns-clause-found
returns-clause-found c = λ text n h. found-written text n h

pub returns-clause-only : goal.returns-clause-only
returns-clause-only c = λ text n i. only-written text n i
