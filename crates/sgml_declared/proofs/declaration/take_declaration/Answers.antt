use Rattle.std.proofs.Common.{subst, ◌∙◌}
use Rattle.sgml_decl_forms.specs.Declarations.{declaration_at}
use Rattle.sgml_dtd.specs.Errors.{IsRefusalOf}
use Rattle.sgml_declared.specs.Files.{sources_in}
use Rattle.sgml_declared.proofs.Taken.{declaration-taken, added-more, declaration-refused, declaration-stopped}
use Rattle.sgml_declared.proofs.declaration.take_declaration.Goals as goal

pub returns-in-Err-clause-err : goal.returns-in-Err-clause-err
returns-in-Err-clause-err c =
    declaration-stopped c.args.options.now c.args.dtd.now c.args.subset.now c.args.texts.now c.args.stack.now c.in-Err.error c.in-Err.ensures.err

pub returns-in-Ok-add-clause-ok : goal.returns-in-Ok-add-clause-ok
returns-in-Ok-add-clause-ok c outside n a ends =
    declaration-taken c.args.options.now outside (sources_in c.args.dtd.now c.args.subset.now) c.args.texts.now c.noted_base.result.now c.in-Ok.lexemes c.add.new.self c.args.stack.now c.read_declaration.new.stack n
    (λ outside o. c.noted_base.ensures ∙ c.in_ok-found.ensures.base outside o) c.in-Ok-add.ensures.ok a (c.in-Ok.ensures.ok outside n a ends)

pub returns-in-Ok-add-clause-more : goal.returns-in-Ok-add-clause-more
returns-in-Ok-add-clause-more c =
    added-more c.noted_base.result.now c.in-Ok.lexemes c.args.dtd.now c.add.new.self (declaration_at c.in-Ok.lexemes) c.in-Ok-add.ensures.ok

pub returns-in-Err-Refused-clause-err : goal.returns-in-Err-Refused-clause-err
returns-in-Err-Refused-clause-err c outside n a ends =
    declaration-refused outside (sources_in c.args.dtd.now c.args.subset.now) c.args.texts.now c.in-Ok.lexemes c.args.stack.now c.read_declaration.new.stack n c.in-Err-Refused.reason
    (subst (IsRefusalOf c.in-Ok.lexemes c.args.dtd.now (declaration_at c.in-Ok.lexemes)) c.in-Err-Refused.field-0-is c.in-Err-Refused.ensures.refused) (c.in-Ok.ensures.ok outside n a ends)
