use Rattle.sgml_entity.proofs.Mapped.{grown, others}
use Rattle.sgml_entity.proofs.laws.texts_are_a_map.Goals as goal

pub returns : goal.returns
returns c = record { grown = grown; others = λ texts entity bytes other d. others texts entity other bytes d }
