use Rattle.sgml_content_steps.proofs.Beginning.{instance-begins}
use Rattle.sgml_content_steps.proofs.Lasting.{instance-stays}
use Rattle.sgml_content_steps.proofs.Told.{instance-moved}
use Rattle.sgml_content_steps.proofs.laws.instance_begins.Goals as goal

pub returns : goal.returns
returns c = record { begins = instance-begins; goes_on = λ k n i. instance-moved n k i; stays = instance-stays }
