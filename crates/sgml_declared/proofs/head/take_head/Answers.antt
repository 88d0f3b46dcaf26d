use Rattle.sgml_declared.proofs.Wanted.{head-stopped}
use Rattle.sgml_declared.proofs.Heads.{head-taken, head-over, head-refused}
use Rattle.sgml_declared.proofs.head.take_head.Goals as goal

pub returns-in-Err-clause-err : goal.returns-in-Err-clause-err
returns-in-Err-clause-err c outside n a ends supplied =
    head-stopped outside c.args.dtd.now c.args.texts.now c.args.stack.now n c.in-Err.error c.requires.first (c.in-Err.ensures.err outside n a ends)

pub returns-in-Ok-add_head-clause-ok : goal.returns-in-Ok-add_head-clause-ok
returns-in-Ok-add_head-clause-ok c outside n a ends supplied =
    head-taken c.args.options.now outside c.args.dtd.now c.args.texts.now c.args.asked.now c.args.stack.now c.read_declaration.new.stack c.add_head.new.stack n c.in-Ok.lexemes c.in_ok-base.base c.add_head.new.dtd c.in-Ok-add_head.head
    c.in_ok-base.ensures c.in-Ok-add_head.ensures.ok a supplied (c.in-Ok.ensures.ok outside n a ends)

pub returns-in-Ok-add_head-clause-over : goal.returns-in-Ok-add_head-clause-over
returns-in-Ok-add_head-clause-over c n ends =
    head-over c.args.options.now c.args.dtd.now c.args.texts.now c.args.asked.now c.args.stack.now c.read_declaration.new.stack c.add_head.new.stack n c.in-Ok.lexemes c.in_ok-base.base c.add_head.new.dtd c.in-Ok-add_head.head
    c.in-Ok-add_head.ensures.ok (c.in-Ok.ensures.over n ends)

pub returns-clause-err : goal.returns-clause-err
returns-clause-err c outside n a ends supplied =
    head-refused c.args.options.now outside c.args.dtd.now c.args.texts.now c.args.asked.now c.args.stack.now c.read_declaration.new.stack n c.in-Ok.lexemes c.in_ok-base.base c.in-Err-add_head.error
    c.in_ok-base.ensures c.in-Err-add_head.ensures.err a supplied (c.in-Ok.ensures.ok outside n a ends)
