use Rattle.std.proofs.Common.{◌∙◌, ap, sym, subst}
use Rattle.sgml_esis.specs.Kept.{units_of, IsKept}
use Rattle.sgml_esis.specs.Spelling.{spell_escaped}
use Rattle.sgml_esis.proofs.Runs.{plain_spelled}
use Rattle.sgml_esis.proofs.Holding.{puts_as}
use Rattle.sgml_esis.proofs.write.put_escaped.Goals as goal

pub returns-in-Plain : goal.returns-in-Plain
returns-in-Plain g c =
    puts_as _ _ _ _ _ _ c.items.result.now (spell_escaped c.args.text.now)
    (c.items.ensures ∙ plain_spelled c.in-Plain.bytes (subst IsKept c.in-Plain.is c.text.invariant) ∙ ap spell_escaped (sym (ap units_of c.in-Plain.is) ∙ c.text.view_is))
    c.put.ensures
