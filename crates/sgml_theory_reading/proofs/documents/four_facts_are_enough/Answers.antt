use Rattle.sgml_records.specs.Facts.{facts}
use Rattle.sgml_records.proofs.Steps.{facts-noted}
use Rattle.sgml_records.proofs.Waiting.{waits-true, true-waits}
use Rattle.sgml_theory_reading.proofs.Told.{released}
use Rattle.sgml_theory_reading.proofs.documents.four_facts_are_enough.Goals as goal

pub returns : goal.returns
unfolding facts
returns c = record { step = facts-noted; waits = λ earlier. (waits-true earlier, true-waits earlier); puts_out = released }
