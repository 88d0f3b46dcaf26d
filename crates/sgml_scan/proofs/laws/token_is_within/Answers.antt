use Rattle.sgml_scan.proofs.Lawful.{scanned-within}
use Rattle.sgml_scan.proofs.laws.token_is_within.Goals as goal

pub returns : goal.returns
returns c = λ s st ended bytes scanned mode h. scanned-within s st ended bytes scanned mode h
