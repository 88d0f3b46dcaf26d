use Rattle.sgml_decl_parts.proofs.Continuing as continuing
use Rattle.sgml_decl_parts.proofs.laws.end_stays.Goals as goal

pub returns : goal.returns
returns c = continuing.end_stays
