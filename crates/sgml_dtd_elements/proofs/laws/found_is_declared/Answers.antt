use Rattle.sgml_dtd_elements.proofs.OneDeclaration.{found_is_declared}
use Rattle.sgml_dtd_elements.proofs.laws.found_is_declared.Goals as goal

pub returns : goal.returns
returns c = found_is_declared
