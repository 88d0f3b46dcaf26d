use Rattle.std.proofs.Common.{[], ◌∷◌, ◌++◌}
use Rattle.std.specs.Prelude.{decimal}
use Rattle.sgml_esis.proofs.Holding.{puts_then}
use Rattle.sgml_full.proofs.spelling.put_number_reference.Goals as goal

pub returns : goal.returns
returns g c =
    puts_then _ _ _ _ _ _ _ _ _ (38 ∷ 35 ∷ []) (decimal c.args.b ++ 59 ∷ []) c.put.ensures (puts_then _ _ _ _ _ _ _ _ _ (decimal c.args.b) (59 ∷ []) c.put_decimal.ensures c.put-2.ensures)
