use Rattle.std.proofs.Common.{ℕ, List, ◌∷◌, ap}
use Rattle.sgml_esis.proofs.Holding.{puts_item, puts_as}
use Rattle.sgml_full.proofs.tags.put_more_names.Goals as goal

pub loop-name-preserved : goal.loop-name-preserved
loop-name-preserved g c =
    let f : List ℕ → List ℕ = λ name. 32 ∷ name in
    puts_item f c.args.names.now c.loop-name.name-index c.name-item.result _ _ _ _ _ _ _ _ _ c.loop-name-test.true c.name-item.is c.loop-name.invariant (puts_as _ _ _ _ _ _ (32 ∷ c.items.result.now) (32 ∷ c.name-item.result) (ap f c.items.ensures.list) c.put_spaced.ensures)
