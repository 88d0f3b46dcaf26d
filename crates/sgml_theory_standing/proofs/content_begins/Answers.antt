use Rattle.sgml_theory_standing.proofs.Parsing.{content-begins-so}
use Rattle.sgml_theory_standing.proofs.content_begins.Goals as goal

pub returns : goal.returns
returns c = content-begins-so
