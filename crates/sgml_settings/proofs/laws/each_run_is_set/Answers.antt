use Rattle.sgml_settings.proofs.Each.{each-run-is-set}
use Rattle.sgml_settings.proofs.laws.each_run_is_set.Goals as goal

pub returns : goal.returns
returns c = each-run-is-set
