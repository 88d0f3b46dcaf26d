use Rattle.std.proofs.Common.{[], ◌∷◌}
use Rattle.sgml_esis.specs.Spelling.{spell_content}
use Rattle.sgml_esis.proofs.Holding.{puts_then}
use Rattle.sgml_esis.proofs.write.put_line.Goals as goal

pub returns : goal.returns
returns g c = puts_then _ _ _ _ _ _ _ _ _ (spell_content c.args.line.now) (10 ∷ []) c.put_content.ensures c.put.ensures
