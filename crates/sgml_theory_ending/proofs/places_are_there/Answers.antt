use Rattle.sgml_theory_ending.proofs.Faulting.{faults-have-places}
use Rattle.sgml_theory_ending.proofs.There.{places-are-there}
use Rattle.sgml_theory_ending.proofs.places_are_there.Goals as goal

pub returns-clause-places : goal.returns-clause-places
returns-clause-places c = places-are-there

pub returns-clause-faults : goal.returns-clause-faults
returns-clause-faults c = faults-have-places
