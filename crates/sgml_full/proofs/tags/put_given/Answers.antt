use Rattle.std.proofs.Common.{[], ◌∷◌, ◌++◌}
use Rattle.sgml_esis.proofs.Holding.{puts_then}
use Rattle.sgml_full.specs.Spelled.{spelled_value}
use Rattle.sgml_full.proofs.tags.put_given.Goals as goal

pub returns : goal.returns
returns g c =
    let value = spelled_value c.args.dtd.now c.args.value.now in
    puts_then _ _ _ _ _ _ _ _ _ (32 ∷ c.args.name.now) (61 ∷ 34 ∷ (value ++ 34 ∷ [])) (puts_then _ _ _ _ _ _ _ _ _ (32 ∷ []) c.args.name.now c.put.ensures c.put-2.ensures) (puts_then _ _ _ _ _ _ _ _ _ (61 ∷ 34 ∷ []) (value ++ 34 ∷ []) c.put-3.ensures (puts_then _ _ _ _ _ _ _ _ _ value (34 ∷ []) c.put_value.ensures c.put-4.ensures))
