use Rattle.sgml_content_steps.proofs.Marking.{comment-step}
use Rattle.sgml_content_steps.proofs.plain.take_comment.Goals as goal

pub returns : goal.returns
returns c = comment-step c.args.texts.now c.args.token c.args.content.now c.mark_up.new.content c.requires.content c.requires.kind c.mark_up.ensures
