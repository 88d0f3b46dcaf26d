use Rattle.sgml_instance.proofs.Gained.{more-texts-read-on}
use Rattle.sgml_instance.proofs.laws.more_texts_read_on.Goals as goal

pub returns : goal.returns
returns c = more-texts-read-on
