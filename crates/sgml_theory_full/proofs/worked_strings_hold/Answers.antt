use Rattle.sgml_theory_full.proofs.WorkedStrings.{strings-are-written}
use Rattle.sgml_theory_full.proofs.worked_strings_hold.Goals as goal

pub returns : goal.returns
returns c = strings-are-written c.read_may_be_written.ensures
