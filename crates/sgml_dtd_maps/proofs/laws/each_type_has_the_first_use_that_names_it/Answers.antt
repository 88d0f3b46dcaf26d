use Rattle.sgml_dtd_maps.proofs.FirstUse.{found-first, first-found, none-names}
use Rattle.sgml_dtd_maps.proofs.Ordering.{all-declared}
use Rattle.sgml_dtd_maps.proofs.laws.each_type_has_the_first_use_that_names_it.Goals as goal

pub returns-clause-found : goal.returns-clause-found
returns-clause-found c = λ uses u name h. found-first uses u name h

pub returns-clause-only : goal.returns-clause-only
returns-clause-only c = λ uses u name f. first-found uses u name f

pub returns-clause-none : goal.returns-clause-none
returns-clause-none c = λ uses name h. none-names uses name h

pub returns-clause-declared : goal.returns-clause-declared
returns-clause-declared c = λ syntax ds n u h. (all-declared syntax ds).uses n u h
