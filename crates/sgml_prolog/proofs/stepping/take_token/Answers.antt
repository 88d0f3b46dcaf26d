use Rattle.sgml_prolog.proofs.stepping.take_token.Goals as goal

pub returns-in-Separators-clause-step : goal.returns-in-Separators-clause-step
returns-in-Separators-clause-step c = c.take_separators.ensures c.args.options.now c.args.ended c.args.asked.now c.requires.there

pub returns-in-Skipped-clause-step : goal.returns-in-Skipped-clause-step
returns-in-Skipped-clause-step c = c.take_skipped.ensures c.args.options.now c.args.ended c.args.asked.now c.requires.there

pub returns-in-Instruction-clause-step : goal.returns-in-Instruction-clause-step
returns-in-Instruction-clause-step c = c.take_instruction.ensures c.args.options.now c.args.ended c.args.asked.now c.requires.there

pub returns-in-Comment-clause-step : goal.returns-in-Comment-clause-step
returns-in-Comment-clause-step c = c.take_comment.ensures c.args.options.now c.args.ended c.args.asked.now c.requires.there

pub returns-in-SectionEnd-clause-step : goal.returns-in-SectionEnd-clause-step
returns-in-SectionEnd-clause-step c = c.take_section_end.ensures c.args.options.now c.args.ended c.args.asked.now c.requires.there

pub returns-in-Misfit-clause-step : goal.returns-in-Misfit-clause-step
returns-in-Misfit-clause-step c = c.refuse_misfit.ensures c.args.options.now c.args.ended c.args.asked.now c.requires.there

pub returns-in-Reference-clause-step : goal.returns-in-Reference-clause-step
returns-in-Reference-clause-step c = c.take_reference.ensures c.args.ended c.args.asked.now c.requires.there

pub returns-in-SectionStart-clause-step : goal.returns-in-SectionStart-clause-step
returns-in-SectionStart-clause-step c = c.take_start.ensures c.args.asked.now

pub returns-in-Declaration-clause-step : goal.returns-in-Declaration-clause-step
returns-in-Declaration-clause-step c = c.take_declaration_step.ensures.step c.args.asked.now

pub returns-in-SubsetEnd-clause-step : goal.returns-in-SubsetEnd-clause-step
returns-in-SubsetEnd-clause-step c = c.take_end.ensures c.args.asked.now
