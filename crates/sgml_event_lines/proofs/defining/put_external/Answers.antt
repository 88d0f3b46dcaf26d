use Rattle.std.proofs.Common.{sym}
use Rattle.sgml_esis.proofs.Holding.{puts_then, puts_as}
use Rattle.sgml_event_lines.proofs.Joining.{spelled_append}
use Rattle.sgml_theory_reading.specs.Lines.{public_lines, system_lines}
use Rattle.sgml_event_lines.specs.Spelled.{spelled}
use Rattle.sgml_event_lines.proofs.defining.put_external.Goals as goal

pub returns : goal.returns
returns g c = puts_as _ _ _ _ _ _ _ _ (sym (spelled_append (public_lines c.args.external.now.public) (system_lines c.args.external.now.system))) (puts_then _ _ _ _ _ _ _ _ _ (spelled (public_lines c.args.external.now.public)) (spelled (system_lines c.args.external.now.system)) c.put_public.ensures c.put_system.ensures)
