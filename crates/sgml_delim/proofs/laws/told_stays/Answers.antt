use Rattle.sgml_delim.specs.Answers.{answer}
use Rattle.sgml_delim.proofs.Found.{told-goes-on}
use Rattle.sgml_delim.proofs.laws.told_stays.Goals as goal

pub returns : goal.returns
returns c = λ s mode net ended bytes rest r t a. told-goes-on ended (answer s mode net) bytes rest r t a
