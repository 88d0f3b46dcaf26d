use Rattle.sgml_cli.proofs.Each.{each-run-has-an-outcome}
use Rattle.sgml_cli.proofs.running.each_run_has_an_outcome.Goals as goal

pub returns : goal.returns
returns c = each-run-has-an-outcome
