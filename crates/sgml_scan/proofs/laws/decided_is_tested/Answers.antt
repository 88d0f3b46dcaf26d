use Rattle.sgml_scan.proofs.Tested.{decided-is}
use Rattle.sgml_scan.proofs.laws.decided_is_tested.Goals as goal

pub returns : goal.returns
returns c = decided-is
