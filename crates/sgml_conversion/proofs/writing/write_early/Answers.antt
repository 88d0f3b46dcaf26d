use Rattle.std.proofs.Common.{[]}
use Rattle.sgml_conversion.specs.declared.answer.Failure.TheVariants as failure
use Rattle.sgml_conversion.proofs.Taken.{same-cause, without-cause}
use Rattle.sgml_conversion.proofs.writing.write_early.Goals as goal

pub returns-in-Ok-take_events-clause-ok : goal.returns-in-Ok-take_events-clause-ok
returns-in-Ok-take_events-clause-ok g c =
    let O = g.O.Sink in let start = O.taken c.args.out.now in let count = O.faults c.args.out.now in
    c.in-Ok-take_events.ensures.takes start count [] (record { lines = c.in-Ok.ensures start count; identifiers = c.new-idents.ensures c.args.dtd.now })

pub returns-in-Ok-take_events-clause-cause : goal.returns-in-Ok-take_events-clause-cause
returns-in-Ok-take_events-clause-cause g c =
    let O = g.O.Sink in let start = O.taken c.args.out.now in let count = O.faults c.args.out.now in
    without-cause count _ _ (c.in-Ok-take_events.ensures.cause start count [] (record { lines = c.in-Ok.ensures start count; identifiers = c.new-idents.ensures c.args.dtd.now })).later

pub returns-in-Err-clause-err : goal.returns-in-Err-clause-err
returns-in-Err-clause-err g c =
    let O = g.O.Sink in let start = O.taken c.args.out.now in let count = O.faults c.args.out.now in
    c.in-Err.ensures.takes start count [] (record { lines = c.in-Ok.ensures start count; identifiers = c.new-idents.ensures c.args.dtd.now })

pub returns-in-Err-clause-cause : goal.returns-in-Err-clause-cause
returns-in-Err-clause-cause g c =
    let O = g.O.Sink in let start = O.taken c.args.out.now in let count = O.faults c.args.out.now in
    same-cause failure.Sink c.in-Err.failure _ _ (c.in-Err.ensures.cause start count [] (record { lines = c.in-Ok.ensures start count; identifiers = c.new-idents.ensures c.args.dtd.now }))
