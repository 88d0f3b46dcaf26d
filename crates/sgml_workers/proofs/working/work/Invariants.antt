use Rattle.std.proofs.Common.{◌≡◌, ◌-◌, length}
use Rattle.sgml_runs.specs.Counts.{after_first}
use Rattle.sgml_runs.specs.Names.{known, IsPassOf}
use Rattle.sgml_workers.proofs.working.work.Given as goal

abbrev pub invariant-loop-chunk : goal.invariant-loop-chunk
invariant-loop-chunk g l = IsPassOf g.S.Scan.scanned l.board l.pass × ((known l.pass).nones ≡ 0) × ((known l.pass).leads ≡ 0) × ((known l.pass).parts ≡ (known l.fn.pass).parts)

abbrev pub decreases-loop-chunk : goal.decreases-loop-chunk
decreases-loop-chunk g l = length l.board.chunks.items - after_first (known l.pass).claims
