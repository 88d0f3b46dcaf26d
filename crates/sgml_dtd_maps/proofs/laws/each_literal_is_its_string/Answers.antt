use Rattle.sgml_dtd_maps.proofs.Pairing.{read-pairs, pairs-read}
use Rattle.sgml_dtd_maps.proofs.laws.each_literal_is_its_string.Goals as goal

pub returns-clause-read : goal.returns-clause-read
returns-clause-read c = λ syntax ps pairs h. read-pairs syntax ps pairs h

pub returns-clause-all : goal.returns-clause-all
returns-clause-all c = λ syntax ps pairs a. pairs-read syntax ps pairs a
