use Rattle.std.proofs.Common.{take}
use Rattle.sgml_idents.proofs.Growing.{one_more_noted, all_judged}
use Rattle.sgml_idents.proofs.idents.check_ids.Goals as goal

pub loop-event-init : goal.loop-event-init
loop-event-init c = c.new-idents.ensures c.args.dtd.now

pub loop-event-preserved : goal.loop-event-preserved
loop-event-preserved c = one_more_noted _ c.args.dtd.now c.args.events.now c.loop-event.event-index c.event-item.result c.loop-event-test.true c.event-item.is (c.in-Ok.ensures (take c.loop-event.event-index c.args.events.now) c.loop-event.invariant)

pub returns : goal.returns
returns c = all_judged c.args.dtd.now c.args.events.now c.loop-event.event-index _ c.loop-event-test.false (c.judge.ensures c.args.dtd.now (take c.loop-event.event-index c.args.events.now) c.loop-event.invariant)
