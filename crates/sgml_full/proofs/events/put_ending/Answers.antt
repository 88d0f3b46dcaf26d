use Rattle.std.proofs.Common.{[], ◌∷◌}
use Rattle.sgml_esis.proofs.Holding.{puts_then}
use Rattle.sgml_said.specs.Told.{name_at}
use Rattle.sgml_full.specs.Spelled.{end_tag}
use Rattle.sgml_full.proofs.events.put_ending.Goals as goal

pub returns-in-Lines : goal.returns-in-Lines
returns-in-Lines g c = rw c.in-Lines.is (puts_then _ _ _ _ _ _ _ _ _ (10 ∷ []) (end_tag (name_at c.args.dtd.now c.args.element)) c.put.ensures c.put_end_tag.ensures)
