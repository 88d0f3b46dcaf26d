use Rattle.sgml_storage.proofs.Exact.{fronts-are-stored}
use Rattle.sgml_storage.proofs.laws.fronts_are_stored.Goals as goal

pub returns : goal.returns
returns c = fronts-are-stored
