use Rattle.std.proofs.Common.{[], ◌∷◌}
use Rattle.sgml_esis.proofs.Holding.{puts_then}
use Rattle.sgml_full.proofs.tags.put_spaced.Goals as goal

pub returns : goal.returns
returns g c = puts_then _ _ _ _ _ _ _ _ _ (32 ∷ []) c.args.name.now c.put.ensures c.put-2.ensures
