use Rattle.std.proofs.Common.{sym, ap}
use Rattle.sgml_esis.specs.Spelling.{spell_names}
use Rattle.sgml_esis.proofs.Holding.{puts_then, puts_as}
use Rattle.sgml_full.specs.Spelled.{spaced}
use Rattle.sgml_full.proofs.tags.put_names.Goals as goal

pub returns-in-Some : goal.returns-in-Some
returns-in-Some g c =
    puts_as _ _ _ _ _ _ _ _ (sym (ap spaced (rw c.in-Some.is at c.split_first.ensures.cases).0))
    (puts_then _ _ _ _ _ _ _ _ _ c.in-Some.first.now (spell_names c.in-Some.rest.now) (puts_as _ _ _ _ _ _ c.items.result.now c.in-Some.first.now c.items.ensures.list c.put.ensures) c.put_more_names.ensures)
