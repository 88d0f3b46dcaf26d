use Rattle.sgml_prolog.proofs.stepping.take_before.Goals as goal

pub returns-else-is_head : goal.returns-else-is_head
returns-else-is_head c = c.refuse_other.ensures c.args.asked.now
