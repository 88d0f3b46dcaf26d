use Rattle.sgml_dtd_maps.specs.InOrder.{table_of}
use Rattle.sgml_dtd_maps.proofs.Ordering.{found-map, only-map, all-declared}
use Rattle.sgml_dtd_maps.proofs.laws.each_name_has_the_map_of_one_declaration.Goals as goal

pub returns-clause-found : goal.returns-clause-found
returns-clause-found c = λ syntax ds name n h. found-map (table_of syntax ds).maps name n h

pub returns-clause-only : goal.returns-clause-only
returns-clause-only c = λ syntax ds name n i. only-map syntax ds name n i

pub returns-clause-declared : goal.returns-clause-declared
returns-clause-declared c = λ syntax ds n m h. (all-declared syntax ds).maps n m h
