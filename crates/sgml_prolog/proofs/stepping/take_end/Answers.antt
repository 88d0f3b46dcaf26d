use Rattle.sgml_prolog.proofs.stepping.take_end.Goals as goal

pub returns-else-is_in_document : goal.returns-else-is_in_document
returns-else-is_in_document c = λ asked. c.refuse_subset_end.ensures c.args.options.now c.args.ended asked c.requires.there
