use Rattle.sgml_scan.proofs.Told.{decided-stays}
use Rattle.sgml_scan.proofs.laws.decided_stays.Goals as goal

pub returns : goal.returns
returns c = λ s st bytes rest mode h. decided-stays s st bytes rest mode h
