use Rattle.std.proofs.Common.{ap, sym, ◌∙◌}
use Rattle.sgml_entity.specs.Entities.{entity_at}
use Rattle.sgml_event_lines.proofs.Definitions.{place_missing, body_declared}
use Rattle.sgml_event_lines.proofs.defining.define_found.Goals as goal

pub returns-in-None : goal.returns-in-None
returns-in-None g c = place_missing c.args.dtd.now c.args.name.now c.args.number _ _ c.args.pen.now c.requires.number (sym ((rw c.in-None.is at c.get.ensures) ∙ ap (λ es. entity_at es c.args.number) c.entities.ensures.entities))

pub define_new-requires-clause-notation : goal.define_new-requires-clause-notation
define_new-requires-clause-notation g c = body_declared c.args.dtd.now c.args.name.now c.args.number c.in-Some.entity.now c.requires.number (sym ((rw c.in-Some.is at c.get.ensures) ∙ ap (λ es. entity_at es c.args.number) c.entities.ensures.entities)) c.requires.of
