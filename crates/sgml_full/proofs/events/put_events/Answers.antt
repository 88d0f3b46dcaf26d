use Rattle.sgml_full.proofs.Told.{event_put}
use Rattle.sgml_full.proofs.events.put_events.Goals as goal

pub loop-event-preserved : goal.loop-event-preserved
loop-event-preserved g c =
    event_put c.args.dtd.now c.args.events.now c.loop-event.event-index c.event-item.result c.loop-event.inside _ _ _ _ _ _ _ _ _ _ _ c.loop-event-test.true c.event-item.is c.loop-event.invariant c.put_event.ensures c.after_event-inside.ensures
