use Rattle.sgml_instance.proofs.Advancing.{result-advances, result-falls}
use Rattle.sgml_instance.specs.Stepping.{taken}
use Rattle.sgml_instance.proofs.reading.advance.Goals as goal

pub returns-clause-advances : goal.returns-clause-advances
returns-clause-advances g c =
    result-advances c.args.options.now c.args.texts.now c.args.ended c.args.content.now c.step.new.content c.args.told.now.items c.step.new.told.items c.step.new.over (taken c.step.result c.step.new.stop) c.step.ensures.over c.step.ensures.tells

pub returns-clause-falls : goal.returns-clause-falls
returns-clause-falls g c =
    result-falls c.args.options.now c.args.texts.now c.args.ended c.args.content.now c.step.new.content c.args.told.now.items c.step.new.told.items c.step.new.over (taken c.step.result c.step.new.stop) c.step.ensures.tells
