use Rattle.sgml_scan.proofs.Continuing.{scanned-stays}
use Rattle.sgml_scan.proofs.laws.token_stays.Goals as goal

pub returns : goal.returns
returns c = λ s st ended bytes rest scanned mode h decided other. scanned-stays s st ended bytes rest scanned mode h decided other
