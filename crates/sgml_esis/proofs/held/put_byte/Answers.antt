use Rattle.std.proofs.Common.{[], ◌∷◌}
use Rattle.sgml_esis.proofs.Holding.{puts_more}
use Rattle.sgml_esis.proofs.held.put_byte.Goals as goal

pub returns : goal.returns
returns g c = puts_more _ _ _ _ _ _ _ (c.args.b ∷ []) c.make_room.ensures.puts c.push.ensures

pub returns-then-goes_nowhere : goal.returns-then-goes_nowhere
returns-then-goes_nowhere g c = c.put_unseen.ensures (c.args.b ∷ [])
