use Rattle.sgml_instance.proofs.Running.{tag-mapped}
use Rattle.sgml_instance.proofs.quick.try_mapped.Goals as goal

pub returns-in-Start-clause-takes : goal.returns-in-Start-clause-takes
returns-in-Start-clause-takes c =
    tag-mapped c.args.texts.now c.args.content.now c.try_start.new.content c.args.told.now.items c.try_start.new.told.items c.try_start.result c.try_start.ensures.went
    c.try_start.ensures.left

pub returns-in-End-clause-takes : goal.returns-in-End-clause-takes
returns-in-End-clause-takes c =
    tag-mapped c.args.texts.now c.args.content.now c.try_lone_end.new.content c.args.told.now.items c.try_lone_end.new.told.items c.try_lone_end.result c.try_lone_end.ensures.went
    c.try_lone_end.ensures.left
