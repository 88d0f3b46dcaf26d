use Rattle.sgml_theory_reading.proofs.Identified.{fault-is-first, none-is-agreement}
use Rattle.sgml_theory_reading.proofs.documents.identifiers_are_judged.Goals as goal

pub returns : goal.returns
returns c = record { first = fault-is-first; agree = none-is-agreement }
