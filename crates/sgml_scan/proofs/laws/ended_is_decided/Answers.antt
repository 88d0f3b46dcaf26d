use Rattle.sgml_scan.proofs.Unique.{scanned-ended}
use Rattle.sgml_scan.proofs.laws.ended_is_decided.Goals as goal

pub returns : goal.returns
returns c = λ s st bytes scanned h e. scanned-ended s st bytes scanned h e
