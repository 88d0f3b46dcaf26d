use Rattle.std.proofs.Common.{◌++◌, ◌∷◌, [], ◌∙◌, ap, List, arith}
use Rattle.sgml_dtd_maps.specs.declared.uses.MapUse.{MapUse}
use Rattle.sgml_dtd_maps.proofs.Numbering.{one_use}
use Rattle.sgml_dtd_maps.proofs.table.MapTables.insert_use.Goals as goal

pub invariant_of-self-in-Ok : goal.invariant_of-self-in-Ok
invariant_of-self-in-Ok c =
    one_use c.self.inside.maps c.self.inside.uses.items c.push_reserved.new.self.items c.self.inside.of_maps c.self.inside.of_targets c.add_targets.new.table c.args.used c.items.result.now c.len-number.result c.self.invariant
    (c.push_reserved.ensures.items ∙ ap (λ (us : List MapUse). us ++ c.args.used ∷ []) c.in_ok-reserve.ensures.items)
    (omega arith)
    c.items.ensures
    c.in-Ok.ensures.ok
    (omega arith)
