use Rattle.sgml_scan.proofs.Unique.{scanned-one}
use Rattle.sgml_scan.proofs.laws.tokens_are_one.Goals as goal

pub returns : goal.returns
returns c = λ s st ended bytes one other g h. scanned-one s st ended bytes one other g h
