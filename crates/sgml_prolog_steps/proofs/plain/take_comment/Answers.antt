use Rattle.sgml_prolog_steps.proofs.Bytes.{comment-step}
use Rattle.sgml_prolog_steps.proofs.plain.take_comment.Goals as goal

pub returns : goal.returns
returns c = comment-step c.args.texts.now c.args.token c.args.kept.now c.begin_over.new.kept c.requires.kept c.requires.going_on c.requires.sort c.begin_over.ensures
