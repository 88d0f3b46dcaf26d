use Rattle.std.proofs.Common.{[], ◌∷◌}
use Rattle.sgml_esis.specs.Spelling.{spell_escaped}
use Rattle.sgml_esis.proofs.Holding.{puts_then}
use Rattle.sgml_esis.proofs.write.put_text.Goals as goal

pub returns : goal.returns
returns g c = puts_then _ _ _ _ _ _ _ _ _ (c.args.mark ∷ []) (spell_escaped c.args.text.now) c.put.ensures c.put_escaped.ensures
