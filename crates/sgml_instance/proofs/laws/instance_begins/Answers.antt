use Rattle.sgml_instance.proofs.Begun.{begins}
use Rattle.sgml_instance.proofs.laws.instance_begins.Goals as goal

pub returns : goal.returns
returns c = begins
