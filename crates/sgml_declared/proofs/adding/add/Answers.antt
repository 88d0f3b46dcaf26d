use Rattle.std.proofs.Common.{subst}
use Rattle.sgml_decl_forms.specs.declared.declaration.Declaration.TheVariants as form
use Rattle.sgml_decl_forms.specs.Declarations.{declaration_at}
use Rattle.sgml_dtd.specs.Errors.{IsAgainst, IsRefusalOf}
use Rattle.sgml_theory_standing.proofs.theory_spelling.Judged.{first-is-against}
use Rattle.sgml_declared.proofs.adding.add.Goals as goal

pub returns-in-Err-Refused-clause-err : goal.returns-in-Err-Refused-clause-err
returns-in-Err-Refused-clause-err c =
    let refused = subst (IsRefusalOf c.args.lexemes.now c.args.dtd.now (declaration_at c.args.lexemes.now)) c.in-Err-Refused.field-0-is c.in-Err-Refused.ensures.refused in
    first-is-against c.args.lexemes.now c.args.dtd.now (form.Doctype c.args.head.now) c.in-Err-Refused.reason
    (subst (IsAgainst c.args.lexemes.now c.args.dtd.now c.in-Err-Refused.reason) c.requires refused)
