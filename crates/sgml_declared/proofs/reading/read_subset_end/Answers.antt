use Rattle.sgml_decl_lexemes.specs.decl_parts.declared.ends.Construct.TheVariants.{SubsetEnd}
use Rattle.sgml_declared.specs.Files.{sources_in}
use Rattle.sgml_declared.proofs.Lexing.{lexemes-read, lexemes-over, lexemes-stopped}
use Rattle.sgml_declared.proofs.reading.read_subset_end.Goals as goal

pub returns-in-Ok-clause-ok : goal.returns-in-Ok-clause-ok
returns-in-Ok-clause-ok c outside n a e =
    let said = c.in-Ok.ensures in
    lexemes-read SubsetEnd c.args.options.now outside (sources_in c.args.dtd.now c.args.subset.now) c.syntax.result.now c.entities.result.now c.args.texts.now c.args.stack.now
    c.subset_end.new.stack c.args.ended n c.in-Ok.lexemes c.syntax.ensures c.entities.ensures.entities said.ok said.after a e

pub returns-in-Ok-clause-over : goal.returns-in-Ok-clause-over
returns-in-Ok-clause-over c =
    let said = c.in-Ok.ensures in
    lexemes-over SubsetEnd c.args.dtd.now c.syntax.result.now c.entities.result.now c.args.texts.now c.args.stack.now
    c.subset_end.new.stack c.args.ended c.in-Ok.lexemes c.syntax.ensures c.entities.ensures.entities said.ok said.after

pub returns-in-Err-clause-err : goal.returns-in-Err-clause-err
returns-in-Err-clause-err c outside n a e =
    let said = c.in-Err.ensures in
    lexemes-stopped SubsetEnd c.args.options.now outside (sources_in c.args.dtd.now c.args.subset.now) c.syntax.result.now c.entities.result.now c.args.texts.now c.args.stack.now
    c.subset_end.new.stack c.args.ended n c.in-Err.error c.take_error.result c.syntax.ensures c.entities.ensures.entities said.err c.take_error.ensures a e
