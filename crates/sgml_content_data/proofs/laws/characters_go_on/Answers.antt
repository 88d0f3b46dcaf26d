use Rattle.sgml_content_data.proofs.GoingOn.{characters-go-on}
use Rattle.sgml_content_data.proofs.laws.characters_go_on.Goals as goal

pub returns : goal.returns
returns c = characters-go-on
