use Rattle.sgml_scan.proofs.Runs.{scanned-stretch}
use Rattle.sgml_scan.proofs.laws.scanned_stretch_is_one.Goals as goal

pub returns : goal.returns
returns c = scanned-stretch
