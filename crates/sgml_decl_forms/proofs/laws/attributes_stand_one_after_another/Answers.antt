use Rattle.sgml_decl_forms.proofs.InOrder.{one-after-another}
use Rattle.sgml_decl_forms.proofs.laws.attributes_stand_one_after_another.Goals as goal

pub returns : goal.returns
returns c = one-after-another
