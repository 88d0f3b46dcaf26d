use Rattle.std.proofs.Common.{[], ◌∷◌}
use Rattle.sgml_esis.proofs.Holding.{puts_then, puts_as}
use Rattle.sgml_said.specs.Told.{name_at}
use Rattle.sgml_full.proofs.tags.put_end_tag.Goals as goal

pub returns : goal.returns
returns g c =
    let name = name_at c.args.dtd.now c.args.element in
    puts_then _ _ _ _ _ _ _ _ _ (60 ∷ 47 ∷ name) (62 ∷ []) (puts_then _ _ _ _ _ _ _ _ _ (60 ∷ 47 ∷ []) name c.put.ensures (puts_as _ _ _ _ _ _ c.element_name.result.now name c.element_name.ensures c.put-2.ensures)) c.put-3.ensures
