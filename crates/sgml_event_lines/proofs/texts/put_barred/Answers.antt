use Rattle.std.proofs.Common.{[], ◌∷◌}
use Rattle.sgml_esis.proofs.Holding.{puts_then}
use Rattle.sgml_event_lines.specs.Standing.{text_bytes}
use Rattle.sgml_event_lines.proofs.texts.put_barred.Goals as goal

pub returns : goal.returns
returns g c = puts_then _ _ _ _ _ _ _ _ _ (92 ∷ 124 ∷ text_bytes c.args.text.now) (92 ∷ 124 ∷ []) (puts_then _ _ _ _ _ _ _ _ _ (92 ∷ 124 ∷ []) (text_bytes c.args.text.now) c.put_bar.ensures c.put_text.ensures) c.put_bar-2.ensures
