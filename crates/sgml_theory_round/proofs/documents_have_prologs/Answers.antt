use Rattle.sgml_theory_round.proofs.Parting.{documents-have-prologs}
use Rattle.sgml_theory_round.proofs.documents_have_prologs.Goals as goal

pub returns : goal.returns
returns c = documents-have-prologs
