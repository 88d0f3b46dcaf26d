use Rattle.sgml_prolog_steps.proofs.Bytes.{pi-step}
use Rattle.sgml_prolog_steps.proofs.plain.take_instruction.Goals as goal

pub returns : goal.returns
returns c =
    pi-step c.args.texts.now c.args.token c.args.kept.now c.begin_over.new.kept c.in-Ok.text c.requires.kept c.requires.going_on c.requires.sort c.begin_over.ensures
    c.in-Ok.ensures
