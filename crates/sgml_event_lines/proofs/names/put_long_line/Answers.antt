use Rattle.std.proofs.Common.{[], ◌∷◌, ◌++◌}
use Rattle.sgml_esis.proofs.Holding.{puts_then}
use Rattle.sgml_event_lines.specs.Spelled.{closing}
use Rattle.sgml_event_lines.proofs.names.put_long_line.Goals as goal

pub returns : goal.returns
returns g c = puts_then _ _ _ _ _ _ _ _ _ (closing c.args.within) (c.args.mark ∷ c.args.name.now ++ 10 ∷ []) c.put_closing.ensures c.put_name_line.ensures
