use Rattle.std.proofs.Common.{[], ◌∷◌}
use Rattle.sgml_esis.proofs.Holding.{puts_then}
use Rattle.sgml_event_lines.proofs.texts.put_marked.Goals as goal

pub returns : goal.returns
returns g c = puts_then _ _ _ _ _ _ _ _ _ (c.args.mark ∷ []) c.args.bytes.now c.put_byte.ensures c.put.ensures
