use Rattle.std.proofs.Common.{true}
use Rattle.sgml_decl_lexemes.specs.decl_parts.declared.ends.Construct.TheVariants.{Declaration}
use Rattle.sgml_declared.specs.Files.{sources_in}
use Rattle.sgml_declared.proofs.Lexing.{was-scanned, lexemes-read, lexemes-ahead, lexemes-over, lexemes-stopped}
use Rattle.sgml_declared.proofs.reading.read_declaration.Goals as goal

pub returns-in-Ok-clause-ok : goal.returns-in-Ok-clause-ok
returns-in-Ok-clause-ok c outside n a e =
    let said = c.in-Ok.ensures in
    lexemes-read Declaration c.args.options.now outside (sources_in c.args.dtd.now c.args.subset.now) c.syntax.result.now c.entities.result.now c.args.texts.now c.args.stack.now
    c.scanned_lexemes.new.stack true n c.in-Ok.lexemes c.syntax.ensures c.entities.ensures.entities said.ok said.after a e

pub returns-in-Ok-clause-ahead : goal.returns-in-Ok-clause-ahead
returns-in-Ok-clause-ahead c =
    let said = c.in-Ok.ensures in
    lexemes-ahead Declaration c.args.dtd.now c.syntax.result.now c.entities.result.now c.args.texts.now c.args.stack.now
    c.scanned_lexemes.new.stack true c.args.length c.in-Ok.lexemes c.entities.ensures.entities said.ok said.after c.requires.whole

pub returns-in-Ok-clause-over : goal.returns-in-Ok-clause-over
returns-in-Ok-clause-over c =
    let said = c.in-Ok.ensures in
    lexemes-over Declaration c.args.dtd.now c.syntax.result.now c.entities.result.now c.args.texts.now c.args.stack.now
    c.scanned_lexemes.new.stack true c.in-Ok.lexemes c.syntax.ensures c.entities.ensures.entities said.ok said.after

pub returns-in-Err-clause-err : goal.returns-in-Err-clause-err
returns-in-Err-clause-err c outside n a e =
    let said = c.in-Err.ensures in
    lexemes-stopped Declaration c.args.options.now outside (sources_in c.args.dtd.now c.args.subset.now) c.syntax.result.now c.entities.result.now c.args.texts.now c.args.stack.now
    c.scanned_lexemes.new.stack true n c.in-Err.error c.take_error.result c.syntax.ensures c.entities.ensures.entities said.err c.take_error.ensures a e

pub scanned_lexemes-requires-clause-scanned : goal.scanned_lexemes-requires-clause-scanned
scanned_lexemes-requires-clause-scanned c =
    was-scanned Declaration c.args.dtd.now c.syntax.result.now c.entities.result.now c.args.texts.now c.args.stack.now true c.args.length c.syntax.ensures c.entities.ensures.entities c.requires.whole
