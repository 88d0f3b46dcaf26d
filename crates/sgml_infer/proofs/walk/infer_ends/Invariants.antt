use Rattle.std.proofs.Common.{◌≡◌, ◌≤◌, length}
use Rattle.sgml_theory_reading.specs.Omission.{inside_of_ended}
use Rattle.sgml_theory_reading.specs.Runs.{context_after_run}
use Rattle.sgml_infer.specs.Seen.{seen, kept, left_ends, BeginLongestRun}
use Rattle.sgml_infer.specs.Visibles.{kind_in, IsFit}
use Rattle.sgml_infer.proofs.walk.infer_ends.Given as goal

abbrev pub invariant-ends : goal.invariant-ends
invariant-ends l = record {
  within : l.kept ≤ length l.standing.levels.now;
  inside : l.inside ≡ inside_of_ended (kept l.standing l.kept) (kind_in l.standing l.visible);
  fit : IsFit (kept l.standing l.kept) (kind_in l.standing l.visible) l.fit;
  run : BeginLongestRun (seen l.standing) (kind_in l.standing l.visible) (left_ends l.standing l.kept) (kept l.standing l.kept);
  context : context_after_run (seen l.standing) (left_ends l.standing l.kept) ≡ kept l.standing l.kept;
}

abbrev pub decreases-ends : goal.decreases-ends
decreases-ends l = l.kept
