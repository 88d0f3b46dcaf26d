use Rattle.sgml_scan.proofs.Continuing.{ones-stay}
use Rattle.sgml_scan.proofs.laws.characters_stay.Goals as goal

pub returns : goal.returns
returns c = λ s st ended run bytes rest n h i l. ones-stay s st ended run bytes rest n h i l
