use Rattle.std.proofs.Common.{[], ◌∷◌, ◌++◌, ap, sym, ◌∙◌}
use Rattle.sgml_esis.proofs.Holding.{puts_as}
use Rattle.sgml_event_lines.specs.Standing.{text_bytes}
use Rattle.sgml_event_lines.proofs.Bytes.{barred_bytes}
use Rattle.sgml_event_lines.proofs.texts.put_unit.Goals as goal

pub returns-in-Sdata : goal.returns-in-Sdata
returns-in-Sdata g c = rw c.in-Sdata.is (puts_as _ _ _ _ _ _ (92 ∷ 124 ∷ text_bytes c.sdata_text.result.now ++ 92 ∷ 124 ∷ []) _ (ap (λ v. 92 ∷ 124 ∷ text_bytes v ++ 92 ∷ 124 ∷ []) c.sdata_text.ensures ∙ sym (barred_bytes c.args.dtd.now c.in-Sdata.entity)) c.put_barred.ensures)
