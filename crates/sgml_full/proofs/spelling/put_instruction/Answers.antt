use Rattle.std.proofs.Common.{[], ◌∷◌}
use Rattle.std.specs.Prelude.{flat_map}
use Rattle.sgml_esis.proofs.Holding.{puts_then}
use Rattle.sgml_full.specs.Spelled.{line_byte}
use Rattle.sgml_full.proofs.spelling.put_instruction.Goals as goal

pub returns : goal.returns
returns g c =
    let line = flat_map line_byte c.args.text.now in
    puts_then _ _ _ _ _ _ _ _ _ (60 ∷ 63 ∷ line) (62 ∷ []) (puts_then _ _ _ _ _ _ _ _ _ (60 ∷ 63 ∷ []) line c.put.ensures c.put_line.ensures) c.put-2.ensures
