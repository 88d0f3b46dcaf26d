use Rattle.std.proofs.Common.{◌∷◌}
use Rattle.sgml_esis.proofs.Holding.{puts_then}
use Rattle.sgml_event_lines.proofs.values.put_field.Goals as goal

pub returns : goal.returns
returns g c = puts_then _ _ _ _ _ _ _ _ _ (c.args.mark ∷ c.args.name.now) c.args.word.now c.put_marked.ensures c.put.ensures
