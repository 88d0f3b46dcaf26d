use Rattle.sgml_cli.proofs.Back.{answers-read-back}
use Rattle.sgml_cli.proofs.running.answers_read_back.Goals as goal

pub returns : goal.returns
returns c = answers-read-back c.files_are_read_again.ensures
