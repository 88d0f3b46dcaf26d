use Rattle.std.proofs.Common.{[], ◌∷◌, ◌++◌, ap, ◌∙◌}
use Rattle.sgml_esis.proofs.Holding.{puts_as}
use Rattle.sgml_event_lines.specs.Standing.{text_bytes}
use Rattle.sgml_event_lines.proofs.Bytes.{text_line}
use Rattle.sgml_event_lines.proofs.defining.put_system.Goals as goal

pub returns-in-Some : goal.returns-in-Some
returns-in-Some g c = rw c.in-Some.is (puts_as _ _ _ _ _ _ _ _ (ap (λ v. 115 ∷ text_bytes v ++ 10 ∷ []) c.items.ensures ∙ text_line 115 c.in-Some.text) c.put_text_line.ensures)
