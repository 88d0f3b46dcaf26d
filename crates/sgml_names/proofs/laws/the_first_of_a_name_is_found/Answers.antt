use Rattle.sgml_names.proofs.Numbering.{found-numbered}
use Rattle.sgml_names.proofs.laws.the_first_of_a_name_is_found.Goals as goal

pub returns : goal.returns
returns c = λ n names name. found-numbered n names name
