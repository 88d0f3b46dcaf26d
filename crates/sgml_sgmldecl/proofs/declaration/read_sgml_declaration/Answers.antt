use Rattle.sgml_sgmldecl.proofs.Answering.{bad_answers, found_answers, only_found, only_bad}
use Rattle.sgml_sgmldecl.proofs.declaration.read_sgml_declaration.Goals as goal

pub returns-in-Ok-clause-answers : goal.returns-in-Ok-clause-answers
returns-in-Ok-clause-answers c = found_answers c.args.text.now c.in-Ok.heard c.in-Ok.used c.settle.result c.in-Ok.ensures c.settle.ensures

pub returns-in-Ok-clause-only : goal.returns-in-Ok-clause-only
returns-in-Ok-clause-only c = only_found c.args.text.now c.in-Ok.heard c.in-Ok.used c.settle.result c.in-Ok.ensures c.settle.ensures

pub returns-in-Err-clause-answers : goal.returns-in-Err-clause-answers
returns-in-Err-clause-answers c = bad_answers c.args.text.now c.in-Err.error c.in-Err.ensures

pub returns-in-Err-clause-only : goal.returns-in-Err-clause-only
returns-in-Err-clause-only c = only_bad c.args.text.now c.in-Err.error c.in-Err.ensures
