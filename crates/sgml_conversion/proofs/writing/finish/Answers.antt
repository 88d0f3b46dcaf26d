use Rattle.sgml_conversion.proofs.Taken.{finished-as}
use Rattle.sgml_conversion.proofs.writing.finish.Goals as goal

pub returns-in-Some-clause-finishes : goal.returns-in-Some-clause-finishes
returns-in-Some-clause-finishes g c = λ start count d es s.
    finished-as start _ d es c.in-Some.outcome c.end_lines.result (c.in-Some.ensures.judged d es s.identifiers) (c.end_lines.ensures.lines start count d es s.lines) c.end_lines.ensures.outcome

pub returns-in-Some-clause-cause : goal.returns-in-Some-clause-cause
returns-in-Some-clause-cause g c = λ start count d es s. c.end_lines.ensures.cause start count d es s.lines
