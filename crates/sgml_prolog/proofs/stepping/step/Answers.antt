use Rattle.sgml_prolog.proofs.stepping.step.Goals as goal

pub returns-in-End-clause-step : goal.returns-in-End-clause-step
returns-in-End-clause-step g c = c.take_text_end.ensures c.args.texts.now c.args.options.now c.args.ended c.args.asked.now c.in-End.ensures

pub returns-in-SgmlDeclaration-clause-step : goal.returns-in-SgmlDeclaration-clause-step
returns-in-SgmlDeclaration-clause-step g c = c.take_sgml.ensures c.args.options.now c.args.asked.now
