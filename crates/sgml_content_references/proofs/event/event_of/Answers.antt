use Rattle.std.proofs.Common.{◌≡◌, ap, subst, IfOk, Some, None}
use Rattle.sgml_prolog_steps.proofs.Referring.{body-is}
use Rattle.sgml_content_references.specs.Entities.{events_in, events_by}
use Rattle.sgml_content_references.proofs.event.event_of.Goals as goal

pub returns-in-Some : goal.returns-in-Some
returns-in-Some c =
    subst (λ b. IfOk c.event_by.result (λ event. events_in event ≡ events_by c.args.number b))
    (body-is c.args.dtd.now c.entities.result.now.entities c.args.number (Some c.in-Some.entity.now) c.entities.ensures.entities c.in-Some.ensures) c.event_by.ensures

pub returns-in-None : goal.returns-in-None
returns-in-None c = ap (events_by c.args.number) (body-is c.args.dtd.now c.entities.result.now.entities c.args.number None c.entities.ensures.entities c.in-None.ensures)
