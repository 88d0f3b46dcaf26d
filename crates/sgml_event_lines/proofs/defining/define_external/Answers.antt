use Rattle.std.proofs.Common.{refl}
use Rattle.sgml_event_lines.proofs.Definitions.{external_put}
use Rattle.sgml_event_lines.proofs.defining.define_external.Goals as goal

pub returns : goal.returns
returns g c = external_put c.args.dtd.now c.args.name.now c.args.kind c.args.external.now c.args.notation.now _ _ _ _ _ c.define_notation.new.pen _ _ _ _ _ _ c.define_notation.ensures c.put_external.ensures c.put_external_line.ensures (record { entities = refl; notations = refl })
