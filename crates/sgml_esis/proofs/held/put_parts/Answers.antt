use Rattle.std.proofs.Common.{[], ◌∷◌}
use Rattle.sgml_esis.proofs.Holding.{puts_then}
use Rattle.sgml_esis.proofs.held.put_parts.Goals as goal

pub returns : goal.returns
returns g c = puts_then _ _ _ _ _ _ _ _ _ (c.args.mark ∷ c.args.bytes.now) (10 ∷ []) (puts_then _ _ _ _ _ _ _ _ _ (c.args.mark ∷ []) c.args.bytes.now c.put_byte.ensures c.put.ensures) c.put_byte-2.ensures
