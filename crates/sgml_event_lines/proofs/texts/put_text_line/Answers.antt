use Rattle.std.proofs.Common.{[], ◌∷◌}
use Rattle.sgml_esis.proofs.Holding.{puts_then}
use Rattle.sgml_event_lines.specs.Standing.{text_bytes}
use Rattle.sgml_event_lines.proofs.texts.put_text_line.Goals as goal

pub returns : goal.returns
returns g c = puts_then _ _ _ _ _ _ _ _ _ (c.args.mark ∷ text_bytes c.args.text.now) (10 ∷ []) (puts_then _ _ _ _ _ _ _ _ _ (c.args.mark ∷ []) (text_bytes c.args.text.now) c.put_byte.ensures c.put_text.ensures) c.put_byte-2.ensures
