use Rattle.sgml_catalog.proofs.OneReading.{one_reading}
use Rattle.sgml_catalog.proofs.laws.a_text_spells_one_list_of_tokens.Goals as goal

pub returns : goal.returns
returns c = one_reading 0
