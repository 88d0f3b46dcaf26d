use Rattle.std.proofs.Common.{[], Some, None, ap, sym}
use Rattle.sgml_esis.proofs.Holding.{puts_as, puts_nothing}
use Rattle.sgml_theory_reading.specs.Lines.{external_lines}
use Rattle.sgml_event_lines.specs.Spelled.{spelled}
use Rattle.sgml_event_lines.proofs.Definitions.{notation_there}
use Rattle.sgml_event_lines.proofs.defining.put_notation_external.Goals as goal

pub returns-in-Some : goal.returns-in-Some
returns-in-Some g c = puts_as _ _ _ _ _ _ (spelled (external_lines c.in-Some.external.now)) _ (ap spelled (sym (notation_there c.args.dtd.now c.args.name.now _ (Some c.in-Some.external.now) (rw c.in-Some.is at c.notation.ensures) c.entities.ensures.notations))) c.put_external.ensures

pub returns-in-None : goal.returns-in-None
returns-in-None g c = puts_as _ _ _ _ _ _ [] _ (ap spelled (sym (notation_there c.args.dtd.now c.args.name.now _ None (rw c.in-None.is at c.notation.ensures) c.entities.ensures.notations))) (puts_nothing _ _ _)
