use Rattle.std.proofs.Common.{true, sym, ◌∙◌, subst}
use Rattle.sgml_entity.specs.Stack.{Stack}
use Rattle.sgml_decl_lexemes.specs.decl_parts.declared.ends.Construct.TheVariants.{Declaration}
use Rattle.sgml_decl_lexemes.specs.Declares.{asked}
use Rattle.sgml_decl_lexemes.specs.Wholeness.{is_end_reached}
use Rattle.sgml_declared.specs.Files.{sources_in}
use Rattle.sgml_declared.proofs.Lexing.{lexemes-read, lexemes-over}
use Rattle.sgml_content_sections.specs.Uses.{TellsNoCharacter}
use Rattle.sgml_content_sections.proofs.Placing.{other-refused, no-character-refused}
use Rattle.sgml_content_sections.proofs.lexing.read_on.Goals as goal

pub returns-in-Ok-clause-ok : goal.returns-in-Ok-clause-ok
returns-in-Ok-clause-ok c outside n a e =
    let said = c.in-Ok.ensures in
    lexemes-read Declaration c.args.options.now outside (sources_in c.args.dtd.now c.args.subset.now) c.syntax-syntax.result.now c.entities-entities.result.now c.args.texts.now c.args.stack.now
    c.lexemes.new.stack true n c.in-Ok.lexemes c.syntax-syntax.ensures c.entities-entities.ensures.entities said.ok said.after a e

pub returns-in-Ok-clause-over : goal.returns-in-Ok-clause-over
returns-in-Ok-clause-over c =
    let said = c.in-Ok.ensures in
    lexemes-over Declaration c.args.dtd.now c.syntax-syntax.result.now c.entities-entities.result.now c.args.texts.now c.args.stack.now
    c.lexemes.new.stack true c.in-Ok.lexemes c.syntax-syntax.ensures c.entities-entities.ensures.entities said.ok said.after

pub returns-then-is_no_character-clause-err : goal.returns-then-is_no_character-clause-err
returns-then-is_no_character-clause-err c outside n a e =
    let said = c.in-Err.ensures in
    no-character-refused c.args.options.now outside (sources_in c.args.dtd.now c.args.subset.now) c.syntax-syntax.result.now c.entities-entities.result.now c.args.texts.now c.args.stack.now
    c.lexemes.new.stack n c.in-Err.error c.no_character.result c.syntax-syntax.ensures c.entities-entities.ensures.entities said.err (sym c.is_no_character.ensures ∙ c.if-is_no_character.true)
    (subst (λ (s : Stack). TellsNoCharacter (is_end_reached (asked Declaration c.syntax-syntax.result.now c.entities-entities.result.now c.args.texts.now s true)) c.no_character.result) said.err_stack c.no_character.ensures.told) a e

pub returns-else-is_no_character-clause-err : goal.returns-else-is_no_character-clause-err
returns-else-is_no_character-clause-err c outside n a e =
    let said = c.in-Err.ensures in
    other-refused c.args.options.now outside (sources_in c.args.dtd.now c.args.subset.now) c.syntax-syntax.result.now c.entities-entities.result.now c.args.texts.now c.args.stack.now
    c.lexemes.new.stack n c.in-Err.error c.take_error.result c.syntax-syntax.ensures c.entities-entities.ensures.entities said.err (sym c.is_no_character.ensures ∙ c.if-is_no_character.false) c.take_error.ensures a e
