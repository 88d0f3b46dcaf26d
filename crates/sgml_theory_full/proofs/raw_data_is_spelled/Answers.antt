use Rattle.sgml_theory_full.proofs.RawCharacters.{raw-characters, line-ends}
use Rattle.sgml_theory_full.proofs.raw_data_is_spelled.Goals as goal

pub returns : goal.returns
returns c = record { characters = raw-characters; lines = line-ends }
