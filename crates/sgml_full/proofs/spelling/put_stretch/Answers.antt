use Rattle.std.proofs.Common.{ap, sym, ◌∙◌}
use Rattle.std.specs.Prelude.{flat_map}
use Rattle.sgml_esis.proofs.Holding.{puts_as}
use Rattle.sgml_events.specs.Stretches.{units_shown}
use Rattle.sgml_full.specs.Spelled.{spelled_unit}
use Rattle.sgml_full.proofs.Data.{characters_spelled}
use Rattle.sgml_full.proofs.spelling.put_stretch.Goals as goal

pub returns-in-Bytes : goal.returns-in-Bytes
returns-in-Bytes g c = puts_as _ _ _ _ _ _ _ _ (sym (characters_spelled c.args.dtd.now c.in-Bytes.bytes.now) ∙ ap (flat_map (spelled_unit c.args.dtd.now)) (sym (ap units_shown c.in-Bytes.is) ∙ c.parts.ensures)) (rw c.has_map.ensures at c.put_bytes.ensures)
