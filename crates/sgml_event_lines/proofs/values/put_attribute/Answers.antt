use Rattle.std.proofs.Common.{[], ◌∷◌, ◌++◌, ap, refl}
use Rattle.sgml_esis.proofs.Holding.{puts_then, puts_as}
use Rattle.sgml_event_lines.specs.Standing.{value_bytes}
use Rattle.sgml_event_lines.proofs.Placing.{value_put}
use Rattle.sgml_event_lines.proofs.values.put_attribute.Goals as goal

pub returns : goal.returns
returns g c =
    value_put c.args.dtd.now c.args.name.now c.args.value.now _ _ c.args.pen.now _ _ c.define_for.new.pen _ _ _ c.define_for.ensures
    (puts_then _ _ _ _ _ _ _ _ _ (65 ∷ c.args.name.now) (value_bytes c.args.dtd.now c.args.value.now ++ 10 ∷ []) (puts_as _ _ _ _ _ _ (65 ∷ c.items.result.now) _ (ap (λ v. 65 ∷ v) c.items.ensures.list) c.put_marked.ensures)
    (puts_then _ _ _ _ _ _ _ _ _ (value_bytes c.args.dtd.now c.args.value.now) (10 ∷ []) c.put_value.ensures c.put.ensures))
    (record { entities = refl; notations = refl })
