use Rattle.std.proofs.Common.{take}
use Rattle.sgml_conversion.proofs.Documented.{all-written, front-written, none-written}
use Rattle.sgml_conversion.proofs.full.write_document.Goals as goal

pub returns-in-Ok-clause-writes : goal.returns-in-Ok-clause-writes
returns-in-Ok-clause-writes g c =
    let O = g.O.Sink in
    all-written c.args.bytes.now (take c.in-Ok-Some.count c.args.bytes.now) c.args.at c.args.dtd.now c.args.events.now (O.taken c.args.out.now) (O.faults c.args.out.now) (O.taken c.write_full.new.sink) (O.faults c.write_full.new.sink) tt
    (rw c.in-Ok-Some.field-0-is at c.in-Ok-Some.ensures.storage) c.in-Ok.ensures.writes

pub returns-in-Err-SinkFault-clause-writes : goal.returns-in-Err-SinkFault-clause-writes
returns-in-Err-SinkFault-clause-writes g c =
    let O = g.O.Sink in
    front-written c.args.bytes.now (take c.in-Ok-Some.count c.args.bytes.now) c.args.at c.args.dtd.now c.args.events.now (O.taken c.args.out.now) (O.faults c.args.out.now) (O.taken c.write_full.new.sink) (O.faults c.write_full.new.sink)
    (rw c.in-Ok-Some.field-0-is at c.in-Ok-Some.ensures.storage) (rw c.in-Err-SinkFault.field-0-is at c.in-Err-SinkFault.ensures.writes)

pub returns-in-Some-clause-writes : goal.returns-in-Some-clause-writes
returns-in-Some-clause-writes g c =
    let O = g.O.Sink in
    none-written c.args.bytes.now (take c.in-Ok-Some.count c.args.bytes.now) c.args.at c.args.dtd.now c.args.events.now (O.taken c.args.out.now) (O.faults c.args.out.now) (O.taken c.write_full.new.sink) (O.faults c.write_full.new.sink)
    c.in-Err-PiNotSpelled.index c.in-Some.refusal c.in-Some.ensures.0 c.in-Some.ensures.1 (rw c.in-Err-PiNotSpelled.field-0-is at c.in-Err-PiNotSpelled.ensures.writes)
