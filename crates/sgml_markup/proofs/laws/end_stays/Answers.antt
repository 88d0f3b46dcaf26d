use Rattle.sgml_markup.proofs.Ending.{end-kept}
use Rattle.sgml_markup.proofs.laws.end_stays.Goals as goal

pub returns : goal.returns
returns c = λ s form ended bytes rest n h. end-kept s form ended bytes rest n h
