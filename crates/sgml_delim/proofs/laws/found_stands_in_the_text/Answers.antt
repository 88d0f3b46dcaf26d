use Rattle.sgml_delim.proofs.Deciding.{found-length}
use Rattle.sgml_delim.proofs.Found.{found-stands, stands-after}
use Rattle.sgml_delim.proofs.laws.found_stands_in_the_text.Goals as goal

pub returns-clause-stands : goal.returns-clause-stands
returns-clause-stands c = λ s mode net ended bytes x n a. found-stands s mode net ended bytes x n a

pub returns-clause-within : goal.returns-clause-within
returns-clause-within c = λ s mode net ended bytes x n a. found-length s mode net ended bytes x n a

pub returns-clause-needed : goal.returns-clause-needed
returns-clause-needed c = λ s mode net bytes x e h. stands-after s mode net x bytes e h
