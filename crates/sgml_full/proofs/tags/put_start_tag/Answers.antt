use Rattle.std.proofs.Common.{[], ◌∷◌, ◌++◌}
use Rattle.std.specs.Prelude.{flat_map}
use Rattle.sgml_esis.proofs.Holding.{puts_then, puts_as}
use Rattle.sgml_said.specs.Told.{name_at, definitions_at, attributes_with}
use Rattle.sgml_full.specs.Spelled.{specification_of}
use Rattle.sgml_full.proofs.tags.put_start_tag.Goals as goal

pub returns : goal.returns
returns g c =
    let d = c.args.dtd.now in
    let name = name_at d c.args.element in
    let values = flat_map (specification_of d) (attributes_with (definitions_at d c.args.element) c.args.values.now) in
    puts_then _ _ _ _ _ _ _ _ _ (60 ∷ name) (values ++ 62 ∷ []) (puts_then _ _ _ _ _ _ _ _ _ (60 ∷ []) name c.put.ensures (puts_as _ _ _ _ _ _ c.element_name.result.now name c.element_name.ensures c.put-2.ensures)) (puts_then _ _ _ _ _ _ _ _ _ values (62 ∷ []) (rw c.definitions.ensures at c.put_specifications.ensures) c.put-3.ensures)
