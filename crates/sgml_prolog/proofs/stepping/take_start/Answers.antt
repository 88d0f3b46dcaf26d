use Rattle.sgml_prolog.proofs.stepping.take_start.Goals as goal

pub returns-then-is_in_ignored : goal.returns-then-is_in_ignored
returns-then-is_in_ignored c = λ asked. c.take_ignored_start.ensures c.args.options.now asked
