use Rattle.sgml_marked.proofs.Opening.{sections-decide}
use Rattle.sgml_marked.proofs.laws.equal_sections_are_the_same.Goals as goal

pub returns : goal.returns
returns c = λ first second. sections-decide first second
