use Rattle.sgml_prolog_steps.proofs.Starting.{ignored-start-step}
use Rattle.sgml_prolog_steps.proofs.sections.take_ignored_start.Goals as goal

pub returns : goal.returns
returns c =
    ignored-start-step c.args.texts.now c.args.ended c.args.token c.args.kept.now c.begin_section.new.kept c.read_over.new.kept c.in-Ok.on c.requires.kept c.requires.going_on c.requires.there
    c.requires.sort c.requires.ignored c.in-Ok.ensures c.in-Ok-begin_section.ensures.ok c.read_over.ensures
