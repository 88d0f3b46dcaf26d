use Rattle.std.proofs.Common.{ap}
use Rattle.sgml_theory_reading.specs.Events.{events_of_run}
use Rattle.sgml_theory_reading.proofs.Reading.{read-on-agree, stops-agree}
use Rattle.sgml_theory_reading.proofs.documents.state_is_enough.Goals as goal

pub returns : goal.returns
returns c = record { reads = read-on-agree; stops = stops-agree; tells = λ forms h k ps e. ap (λ s. events_of_run forms s ps) e }
