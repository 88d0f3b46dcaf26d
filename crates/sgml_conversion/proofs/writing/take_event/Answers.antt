use Rattle.std.proofs.Common.{[], ◌∷◌, ◌++◌, sym}
use Rattle.sgml_conversion.proofs.Written.{put-is-front}
use Rattle.sgml_conversion.proofs.Taken.{some-put}
use Rattle.sgml_conversion.proofs.writing.take_event.Goals as goal

pub returns-then-not-is_event_of-clause-takes : goal.returns-then-not-is_event_of-clause-takes
returns-then-not-is_event_of-clause-takes g c = λ start count es s. some-put start count _ _ _ _ _ es (c.args.event.now ∷ []) s

pub returns-in-Err-clause-takes : goal.returns-in-Err-clause-takes
returns-in-Err-clause-takes g c = λ start count es s. some-put start count _ _ _ _ _ es (c.args.event.now ∷ []) s

pub returns-in-Ok-write_defined-clause-takes : goal.returns-in-Ok-write_defined-clause-takes
returns-in-Ok-write_defined-clause-takes g c = λ start count es s. record { lines = c.write_defined.ensures.goes_on start count es s.lines; identifiers = c.in-Ok.ensures c.args.dtd.now es c.start_definitions-definitions.ensures s.identifiers }

pub returns-in-Ok-write_defined-clause-cause : goal.returns-in-Ok-write_defined-clause-cause
returns-in-Ok-write_defined-clause-cause g c = λ start count es s. record { later = (c.write_defined.ensures.goes_on start count es s.lines).stands.later; failed = λ e. absurd (cc e) }

pub returns-in-Err-write_defined-clause-takes : goal.returns-in-Err-write_defined-clause-takes
returns-in-Err-write_defined-clause-takes g c = λ start count es s. put-is-front start count _ _ c.write_defined.new.self c.args.dtd.now (es ++ c.args.event.now ∷ []) (c.write_defined.ensures.goes_on start count es s.lines)

pub returns-in-Err-write_defined-clause-cause : goal.returns-in-Err-write_defined-clause-cause
returns-in-Err-write_defined-clause-cause g c = λ start count es s.
    let t = (c.write_defined.ensures.goes_on start count es s.lines).stands in
    record { later = t.later; failed = λ e. t.failed (sym c.in-Err-write_defined.ensures.fault) }
