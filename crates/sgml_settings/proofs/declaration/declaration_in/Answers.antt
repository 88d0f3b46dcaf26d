use Rattle.std.proofs.Common.{subst}
use Rattle.sgml_settings.specs.BadFiles.{declaration_number}
use Rattle.sgml_settings.specs.Setting.{OrFails, DeclarationOf}
use Rattle.sgml_settings.proofs.Reading.{declaration-read}
use Rattle.sgml_settings.proofs.declaration.declaration_in.Goals as goal

pub returns-clause-read : goal.returns-clause-read
returns-clause-read g c =
    declaration-read (g.S.Store.files c.args.store.now) declaration_number c.args.name.now c.in-Ok.text c.declaration_of.result c.in-Ok.ensures.text
    (subst (λ t. OrFails (DeclarationOf c.args.name.now t) c.declaration_of.result) c.items.ensures c.declaration_of.ensures.read)
