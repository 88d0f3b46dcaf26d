use Rattle.std.proofs.Common.{Err, ◌∙◌, ap, subst}
use Rattle.sgml_decl_forms.specs.Declarations.{declaration_at}
use Rattle.sgml_declared.specs.theory_standing.Kept.{Kept}
use Rattle.sgml_content_sections.specs.Uses.{declared_in, TellsUse}
use Rattle.sgml_content_sections.proofs.Declaring.{refused-unused, said-unused}
use Rattle.sgml_content_sections.proofs.uses.read_use.Goals as goal

pub returns-in-Err-clause-err : goal.returns-in-Err-clause-err
returns-in-Err-clause-err c =
    refused-unused c.args.options.now c.args.texts.now c.args.inside c.args.kept.now c.in-Err.error c.stop_of.result c.in-Err.ensures.err c.stop_of.ensures

pub returns-clause-err : goal.returns-clause-err
returns-clause-err c =
    said-unused c.args.options.now c.args.texts.now c.args.inside c.args.kept.now c.in-Ok.lexemes c.read_lexemes.new.kept.stack c.in-Err-use_said.error c.stop_for.result
    c.in-Ok.ensures.ok
    (subst (λ xs. TellsUse (declared_in c.args.kept.now.doctype c.args.inside (declaration_at xs)) (Err c.in-Err-use_said.error)) c.items.ensures
    (subst (λ d. TellsUse (declared_in d c.args.inside (declaration_at c.items.result.now)) (Err c.in-Err-use_said.error))
    (ap (λ (k : Kept). k.doctype) (c.kept-2.view_is ∙ c.in-Ok.ensures.same)) c.in-Err-use_said.ensures))
    c.stop_for.ensures
