use Rattle.std.proofs.Common.{Ok, Err, subst}
use Rattle.sgml_text.specs.declared.error.RefusalError.TheVariants.{Refused}
use Rattle.sgml_declared.specs.Files.{sources_in}
use Rattle.sgml_declared.specs.Statuses.{TellsStatus}
use Rattle.sgml_declared.proofs.Statuses.{status-taken, status-refused, status-stopped}
use Rattle.sgml_declared.proofs.section.section_status.Goals as goal

pub returns-in-Err-clause-err : goal.returns-in-Err-clause-err
returns-in-Err-clause-err c =
    status-stopped c.args.options.now c.args.dtd.now c.args.subset.now c.args.texts.now c.args.stack.now c.in-Err.error c.args.in_type c.in-Err.ensures.err

pub returns-in-Ok-status_told-clause-ok : goal.returns-in-Ok-status_told-clause-ok
returns-in-Ok-status_told-clause-ok c outside n a ends =
    status-taken c.args.options.now outside (sources_in c.args.dtd.now c.args.subset.now) c.args.texts.now c.args.stack.now c.read_section_start.new.stack n c.in-Ok.lexemes c.args.in_type
    c.in-Ok-status_told.status
    (subst (λ y. TellsStatus y c.in-Ok.lexemes c.args.in_type (Ok c.in-Ok-status_told.status)) c.syntax.ensures
    (subst (λ xs. TellsStatus c.syntax.result.now xs c.args.in_type (Ok c.in-Ok-status_told.status)) c.items.ensures c.in-Ok-status_told.ensures))
    ends (c.in-Ok.ensures.ok outside n a ends)

pub returns-in-Err-Refused-clause-err : goal.returns-in-Err-Refused-clause-err
returns-in-Err-Refused-clause-err c outside n a ends =
    status-refused outside (sources_in c.args.dtd.now c.args.subset.now) c.args.texts.now c.args.stack.now c.read_section_start.new.stack n c.in-Ok.lexemes c.args.in_type c.in-Err-Refused.reason
    (subst (λ y. TellsStatus y c.in-Ok.lexemes c.args.in_type (Err (Refused c.in-Err-Refused.reason))) c.syntax.ensures
    (subst (λ xs. TellsStatus c.syntax.result.now xs c.args.in_type (Err (Refused c.in-Err-Refused.reason))) c.items.ensures
    (subst (λ e. TellsStatus c.syntax.result.now c.items.result.now c.args.in_type (Err e)) c.in-Err-Refused.field-0-is c.in-Err-Refused.ensures)))
    (c.in-Ok.ensures.ok outside n a ends)
