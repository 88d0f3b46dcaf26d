use Rattle.sgml_theory_again.proofs.Content.{spelled-of-instance, strings-are-mapped}
use Rattle.sgml_theory_again.proofs.Found.{found-again}
use Rattle.sgml_theory_again.proofs.Moving.{each-of-instance, goes-on, read-stands-in}
use Rattle.sgml_theory_again.proofs.read_is_of_instance.Goals as goal

pub returns-clause-spelled : goal.returns-clause-spelled
returns-clause-spelled c = spelled-of-instance

pub returns-clause-strings : goal.returns-clause-strings
returns-clause-strings c = strings-are-mapped

pub returns-clause-read : goal.returns-clause-read
returns-clause-read c = each-of-instance

pub returns-clause-goes_on : goal.returns-clause-goes_on
returns-clause-goes_on c = goes-on

pub returns-clause-found : goal.returns-clause-found
returns-clause-found c = found-again

pub returns-clause-all : goal.returns-clause-all
returns-clause-all c = read-stands-in
