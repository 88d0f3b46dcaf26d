use Rattle.std.proofs.Common.{refl}
use Rattle.sgml_event_lines.proofs.Bytes.{spaced_at}
use Rattle.sgml_event_lines.proofs.texts.put_single.Goals as goal

pub loop-b-preserved : goal.loop-b-preserved
loop-b-preserved g c = spaced_at c.args.text.now c.loop-b.b-index _ c.loop-b.begun c.loop-b.pending _ c.is_separator-pending.result _ _ _ _ _ _ _ _ _ c.loop-b.invariant c.loop-b-test.true c.is_separator-pending.ensures refl c.put_spaced.ensures
