use Rattle.std.proofs.Common.{[], ◌∷◌, ◌++◌, ap, ◌∙◌, false}
use Rattle.sgml_esis.proofs.Holding.{puts_then, puts_as}
use Rattle.sgml_event_lines.specs.Standing.{text_bytes}
use Rattle.sgml_event_lines.proofs.Bytes.{text_line}
use Rattle.sgml_theory_reading.specs.Lines.{single_from}
use Rattle.sgml_event_lines.proofs.defining.put_public.Goals as goal

pub returns-in-Some : goal.returns-in-Some
returns-in-Some g c = rw c.in-Some.is (puts_as _ _ _ _ _ _ _ _ (ap (λ v. 112 ∷ text_bytes (single_from false false v) ++ 10 ∷ []) c.items.ensures ∙ text_line 112 (single_from false false c.in-Some.text)) (puts_then _ _ _ _ _ _ _ _ _ (112 ∷ text_bytes (single_from false false c.items.result.now)) (10 ∷ []) (puts_then _ _ _ _ _ _ _ _ _ (112 ∷ []) (text_bytes (single_from false false c.items.result.now)) c.put.ensures c.put_single.ensures) c.put-in-Some.ensures))
