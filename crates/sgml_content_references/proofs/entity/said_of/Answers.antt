use Rattle.std.proofs.Common.{◌≡◌, ap, subst, IfOk, Some, None}
use Rattle.sgml_content_references.specs.Referring.{said_in}
use Rattle.sgml_prolog_steps.proofs.Referring.{body-is}
use Rattle.sgml_content_references.proofs.entity.said_of.Goals as goal

pub returns-in-Some : goal.returns-in-Some
returns-in-Some c =
    subst (λ b. IfOk c.said_by.result (λ s. s ≡ said_in c.args.dtd.now b))
    (body-is c.args.dtd.now c.entities.result.now.entities c.args.number (Some c.in-Some.entity.now) c.entities.ensures.entities c.in-Some.ensures) c.said_by.ensures

pub returns-in-None : goal.returns-in-None
returns-in-None c = ap (said_in c.args.dtd.now) (body-is c.args.dtd.now c.entities.result.now.entities c.args.number None c.entities.ensures.entities c.in-None.ensures)
