use Rattle.sgml_content_sections.proofs.Closing.{misplaced-step}
use Rattle.sgml_content_sections.proofs.misplaced.take_misplaced.Goals as goal

pub returns : goal.returns
returns c texts = misplaced-step texts c.args.token c.args.content.now c.requires.content c.requires.kind
