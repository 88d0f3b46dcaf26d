use Rattle.std.proofs.Common.{Bool, subst}
use Rattle.std.specs.Io.KnownBytes.{Appends}
use Rattle.sgml_io.specs.Writes.{AppendsFront}
use Rattle.sgml_event_lines.specs.esis.Spelling.{spell_lines}
use Rattle.sgml_event_lines.specs.Lines.{lines_told}
use Rattle.sgml_conversion.proofs.writing.end_lines.Goals as goal

pub returns-in-Ok-clause-lines : goal.returns-in-Ok-clause-lines
returns-in-Ok-clause-lines g c = λ start count d es s.
    subst (λ (b : Bool). Appends start (g.O.Sink.taken c.finish.new.sink) (spell_lines (lines_told d es b))) c.is_conforming.ensures (c.in-Ok.ensures.bytes start count d es s)

pub returns-in-Ok-clause-cause : goal.returns-in-Ok-clause-cause
returns-in-Ok-clause-cause g c = λ start count d es s. record { later = (c.in-Ok.ensures.cause start count d es s).later; failed = λ e. absurd (cc e) }

pub returns-in-Err-clause-lines : goal.returns-in-Err-clause-lines
returns-in-Err-clause-lines g c = λ start count d es s.
    subst (λ (b : Bool). AppendsFront start (g.O.Sink.taken c.finish.new.sink) (spell_lines (lines_told d es b))) c.is_conforming.ensures (c.in-Err.ensures.bytes start count d es s)

pub returns-in-Err-clause-cause : goal.returns-in-Err-clause-cause
returns-in-Err-clause-cause g c = λ start count d es s. let h = c.in-Err.ensures.cause start count d es s in record { later = h.later; failed = λ e. h.failed }
