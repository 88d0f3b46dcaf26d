use Rattle.sgml_conversion.proofs.Ended.{each-input-has-an-end}
use Rattle.sgml_conversion.proofs.FullEnded.{each-input-has-a-full-end}
use Rattle.sgml_conversion.proofs.laws.each_input_has_an_end.Goals as goal

pub returns-clause-read : goal.returns-clause-read
returns-clause-read c = each-input-has-an-end

pub returns-clause-full : goal.returns-clause-full
returns-clause-full c = each-input-has-a-full-end
