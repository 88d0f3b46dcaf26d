use Rattle.std.proofs.Common.{[], ◌∷◌, ◌++◌, ap, refl}
use Rattle.sgml_esis.proofs.Holding.{puts_as}
use Rattle.sgml_theory_reading.specs.Types.{name_of_entity}
use Rattle.sgml_event_lines.proofs.Placing.{reference_put}
use Rattle.sgml_event_lines.proofs.values.put_reference.Goals as goal

pub returns : goal.returns
returns g c =
    reference_put c.args.dtd.now (name_of_entity c.args.dtd.now c.args.entity) _ _ c.args.pen.now _ _ c.define_entity.new.pen _ _ _
    (rw c.entity_name-name.ensures at c.define_entity.ensures)
    (puts_as _ _ _ _ _ _ (38 ∷ c.entity_name-name.result.now ++ 10 ∷ []) _ (ap (λ v. 38 ∷ v ++ 10 ∷ []) c.entity_name-name.ensures) c.put_name_line.ensures)
    (record { entities = refl; notations = refl })
