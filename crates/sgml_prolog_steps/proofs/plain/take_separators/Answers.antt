use Rattle.sgml_prolog_steps.proofs.Bytes.{separators-step}
use Rattle.sgml_prolog_steps.proofs.plain.take_separators.Goals as goal

pub returns : goal.returns
returns c = separators-step c.args.texts.now c.args.token c.args.kept.now c.read_over.new.kept c.requires.kept c.requires.going_on c.requires.sort c.read_over.ensures
