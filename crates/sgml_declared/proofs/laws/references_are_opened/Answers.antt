use Rattle.sgml_declared.proofs.Opened.{general-texts-are-opened, parameter-texts-are-opened, subsets-are-opened}
use Rattle.sgml_declared.proofs.laws.references_are_opened.Goals as goal

pub returns : goal.returns
returns c = record {
  general = general-texts-are-opened;
  parameter = parameter-texts-are-opened;
  subset = subsets-are-opened;
}
