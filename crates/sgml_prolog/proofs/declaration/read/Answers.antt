use Rattle.std.proofs.Common.{subst}
use Rattle.sgml_declared.specs.decl_parts.declared.ends.Construct.TheVariants.{Declaration}
use Rattle.sgml_declared.specs.theory_standing.Kept.{Kept}
use Rattle.sgml_declared.specs.Taking.{DeclarationIsTaken, DeclarationIsStopped}
use Rattle.sgml_declared.specs.Over.{IsOver, IsMore}
use Rattle.sgml_prolog.proofs.declaration.read.Goals as goal

pub returns-in-Err-clause-err : goal.returns-in-Err-clause-err
returns-in-Err-clause-err c =
    subst (λ (k : Kept). DeclarationIsStopped c.args.options.now k.doctype k.subset c.args.texts.now k.stack c.in-Err.error) c.kept.view_is c.in-Err.ensures.err

pub returns-clause-taken : goal.returns-clause-taken
returns-clause-taken c =
    subst (λ (k : Kept). DeclarationIsTaken c.args.options.now k.doctype k.subset c.args.texts.now c.take_declaration.new.dtd k.stack c.take_declaration.new.stack) c.kept.view_is
    c.in-Ok.ensures.ok

pub returns-clause-over : goal.returns-clause-over
returns-clause-over c =
    subst (λ (k : Kept). IsOver Declaration k.doctype c.args.texts.now k.stack c.take_declaration.new.stack) c.kept.view_is c.in-Ok.ensures.over

pub returns-clause-more : goal.returns-clause-more
returns-clause-more c = subst (λ (k : Kept). IsMore k.doctype c.take_declaration.new.dtd) c.kept.view_is c.in-Ok.ensures.more
