use Rattle.sgml_dtd_attlists.specs.InOrder.{lists_of}
use Rattle.sgml_dtd_attlists.proofs.Declaring.{found-is, only-is, all-declared}
use Rattle.sgml_dtd_attlists.proofs.laws.each_type_has_the_list_of_one_declaration.Goals as goal

pub returns-clause-found : goal.returns-clause-found
returns-clause-found c = λ syntax ds name n h. found-is (lists_of syntax ds) name n h

pub returns-clause-only : goal.returns-clause-only
returns-clause-only c = λ syntax ds name n i. only-is syntax ds name n i

pub returns-clause-declared : goal.returns-clause-declared
returns-clause-declared c = λ syntax ds n l h. all-declared syntax ds n l h
