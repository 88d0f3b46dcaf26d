use Rattle.std.proofs.Common.{◌++◌, take}
use Rattle.sgml_conversion.specs.declared.answer.Failure.TheVariants as failure
use Rattle.sgml_conversion.proofs.Taken.{none-further, one-further, one-failed, all-further, same-cause}
use Rattle.sgml_conversion.proofs.writing.take_events.Goals as goal

pub loop-event-init : goal.loop-event-init
loop-event-init g c = λ start count es s. none-further start count _ _ _ _ _ es s

pub loop-event-preserved : goal.loop-event-preserved
loop-event-preserved g c = λ start count es s.
    let i = c.loop-event.event-index in
    one-further start count _ _ _ _ c.args.dtd.now es c.args.events.now i c.event-item.result c.loop-event-test.true c.event-item.is
    (c.in-Ok.ensures.takes start count (es ++ take i c.args.events.now) (c.loop-event.invariant start count es s))

pub returns-in-Err-clause-takes : goal.returns-in-Err-clause-takes
returns-in-Err-clause-takes g c = λ start count es s.
    let i = c.loop-event.event-index in
    one-failed start _ c.args.dtd.now es c.args.events.now i c.event-item.result c.loop-event-test.true c.event-item.is
    (c.in-Err.ensures.takes start count (es ++ take i c.args.events.now) (c.loop-event.invariant start count es s))

pub returns-in-Err-clause-cause : goal.returns-in-Err-clause-cause
returns-in-Err-clause-cause g c = λ start count es s.
    same-cause failure.Sink c.in-Err.failure _ _ (c.in-Err.ensures.cause start count (es ++ take c.loop-event.event-index c.args.events.now) (c.loop-event.invariant start count es s))

pub returns-clause-takes : goal.returns-clause-takes
returns-clause-takes g c = λ start count es s. all-further start count _ _ _ _ c.args.dtd.now es c.args.events.now c.loop-event.event-index c.loop-event-test.false (c.loop-event.invariant start count es s)

pub returns-clause-cause : goal.returns-clause-cause
returns-clause-cause g c = λ start count es s. record { later = (c.loop-event.invariant start count es s).lines.stands.later; failed = λ e. absurd (cc e) }
