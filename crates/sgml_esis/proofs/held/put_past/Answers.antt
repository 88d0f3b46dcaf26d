use Rattle.std.proofs.Common.{[]}
use Rattle.sgml_esis.proofs.Holding.{puts_then}
use Rattle.sgml_esis.proofs.held.put_past.Goals as goal

pub returns : goal.returns
returns g c = puts_then _ _ _ _ _ _ _ _ _ [] c.args.bytes.now c.flush.ensures.puts c.put_stretch.ensures
