use Rattle.std.proofs.Common.{below_more, slice_index_or}
use Rattle.sgml_scan.specs.Sure.{Sure}
use Rattle.sgml_scan.proofs.stretches.others_of.Goals as goal

pub loop-i-preserved : goal.loop-i-preserved
loop-i-preserved c =
    below_more (λ i. Sure c.args.state c.args.run (slice_index_or c.args.text.now i 0)) c.loop-i.i c.loop-i.invariant
    (c.is_sure.ensures c.if-not-is_sure.false)
