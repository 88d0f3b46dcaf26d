use Rattle.sgml_names.proofs.Standing.{twice-repeats, repeats-twice}
use Rattle.sgml_names.proofs.laws.a_name_that_repeats_stands_twice.Goals as goal

pub returns-clause-stands : goal.returns-clause-stands
returns-clause-stands c = λ names h. repeats-twice names h

pub returns-clause-repeats : goal.returns-clause-repeats
returns-clause-repeats c = λ names s. twice-repeats names s
