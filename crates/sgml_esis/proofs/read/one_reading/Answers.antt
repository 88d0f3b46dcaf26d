use Rattle.sgml_esis.proofs.Files.{reading}
use Rattle.sgml_esis.proofs.read.one_reading.Goals as goal

pub returns : goal.returns
returns c = reading
