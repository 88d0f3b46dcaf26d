use Rattle.std.proofs.Common.{[], ◌∷◌, Bool, sym, ap, ◌∙◌, if◌then◌else◌}
use Rattle.sgml_esis.proofs.Holding.{puts_then, puts_as}
use Rattle.sgml_full.specs.Spelled.{raw_data}
use Rattle.sgml_full.proofs.events.put_first_line.Goals as goal

pub returns : goal.returns
returns g c =
    let raw = raw_data c.args.dtd.now c.args.stretch.now in
    puts_as _ _ _ _ _ _ (10 ∷ raw) _ (ap (λ (t : Bool). if t then [] else 10 ∷ raw) (sym (sym c.is_empty.ensures ∙ c.if-is_empty.false)))
    (puts_then _ _ _ _ _ _ _ _ _ (10 ∷ []) raw c.put.ensures c.put_raw_stretch.ensures)
