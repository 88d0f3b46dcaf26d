use Rattle.std.proofs.Common.{[], ◌∷◌, ◌++◌}
use Rattle.sgml_esis.proofs.held.put_whole_line.Goals as goal

pub returns-then-goes_nowhere : goal.returns-then-goes_nowhere
returns-then-goes_nowhere g c = c.put_unseen.ensures (c.args.mark ∷ c.args.bytes.now ++ 10 ∷ [])
