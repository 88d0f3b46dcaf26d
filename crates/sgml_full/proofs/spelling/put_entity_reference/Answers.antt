use Rattle.std.proofs.Common.{[], ◌∷◌, ◌++◌}
use Rattle.sgml_esis.proofs.Holding.{puts_then, puts_as}
use Rattle.sgml_said.specs.theory_reading.Types.{name_of_entity}
use Rattle.sgml_full.proofs.spelling.put_entity_reference.Goals as goal

pub returns : goal.returns
returns g c =
    let name = name_of_entity c.args.dtd.now c.args.entity in
    puts_then _ _ _ _ _ _ _ _ _ (38 ∷ []) (name ++ 59 ∷ []) c.put.ensures (puts_then _ _ _ _ _ _ _ _ _ name (59 ∷ []) (puts_as _ _ _ _ _ _ c.entity_name.result.now name c.entity_name.ensures c.put-2.ensures) c.put-3.ensures)
