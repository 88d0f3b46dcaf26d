use Rattle.sgml_scan.proofs.Told.{decided-told}
use Rattle.sgml_scan.proofs.laws.decided_is_told.Goals as goal

pub returns : goal.returns
returns c = λ s st bytes some h. decided-told s st bytes some h
