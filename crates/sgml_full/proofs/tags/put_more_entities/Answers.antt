use Rattle.std.proofs.Common.{ℕ, List, ◌∷◌, ap, take, take_all}
use Rattle.std.specs.Prelude.{flat_map}
use Rattle.sgml_esis.proofs.Holding.{puts_at, puts_as}
use Rattle.sgml_said.specs.theory_reading.Types.{name_of_entity}
use Rattle.sgml_full.proofs.tags.put_more_entities.Goals as goal

pub loop-number-preserved : goal.loop-number-preserved
loop-number-preserved g c =
    let f : ℕ → List ℕ = λ number. 32 ∷ name_of_entity c.args.dtd.now number in
    puts_at f c.args.numbers.now c.loop-number.number-index _ _ _ _ _ _ _ _ _ _ c.loop-number-test.true c.loop-number.invariant (puts_as _ _ _ _ _ _ (32 ∷ c.entity_name.result.now) _ (ap (λ (name : List ℕ). 32 ∷ name) c.entity_name.ensures) c.put_spaced.ensures)

pub returns : goal.returns
returns g c =
    let f : ℕ → List ℕ = λ number. 32 ∷ name_of_entity c.args.dtd.now number in
    puts_as _ _ _ _ _ _ (flat_map f (take c.loop-number.number-index c.args.numbers.now)) (flat_map f c.args.numbers.now) (ap (flat_map f) (take_all c.loop-number.number-index c.args.numbers.now c.loop-number-test.false)) c.loop-number.invariant
