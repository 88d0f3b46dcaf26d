use Rattle.std.proofs.Common.{Err, subst}
use Rattle.sgml_syntax.specs.declared.syntax.Syntax.{Syntax}
use Rattle.sgml_settings.specs.BadFiles.{declaration_number}
use Rattle.sgml_settings.specs.Declarations.{IsDeclarationRead}
use Rattle.sgml_settings.proofs.Reading.{not-absent, none-absent}
use Rattle.sgml_settings.proofs.declaration.declaration_of.Goals as goal

pub returns-in-Err-At-clause-there : goal.returns-in-Err-At-clause-there
returns-in-Err-At-clause-there c =
    let none = subst (λ e. IsDeclarationRead c.args.text.now (Err e)) c.in-Err-At.field-0-is c.in-Err-At.ensures in
    not-absent Syntax declaration_number c.args.name.now c.args.text.now c.in-Err-At.at c.in-Err-At.reason c.bad_file.result
    (none-absent c.args.text.now c.in-Err-At.at c.in-Err-At.reason none) c.bad_file.ensures
