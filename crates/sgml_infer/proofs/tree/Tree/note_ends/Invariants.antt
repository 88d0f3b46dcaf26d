use Rattle.std.proofs.Common.{◌≡◌, ◌+◌, ◌≤◌, length}
use Rattle.std.specs.Prelude.{vec_capacity}
use Rattle.sgml_infer.specs.Trees.{open_levels}
use Rattle.sgml_infer.specs.Seen.{ending}
use Rattle.sgml_infer.proofs.tree.Tree.note_ends.Given as goal

abbrev pub invariant-ends : goal.invariant-ends
invariant-ends l = record {
  levels : l.self.levels ≡ l.fn.self.levels;
  depth : l.self.depth ≡ l.fn.self.depth;
  begun : l.self.begun ≡ l.fn.self.begun;
  within : l.kept ≤ l.at;
  below : l.at ≤ l.fn.self.depth;
  counted : length l.self.ended.items + l.at ≡ l.fn.self.depth;
  ended : l.self.ended.items ≡ ending (open_levels l.fn.self) l.at;
  capacity : vec_capacity l.self.ended ≡ vec_capacity l.fn.self.ended;
  starts : l.self.starts ≡ l.fn.self.starts;
  fresh : l.self.fresh ≡ l.fn.self.fresh;
  steps : l.self.steps ≡ l.fn.self.steps;
  known : l.self.known ≡ l.fn.self.known;
}

abbrev pub decreases-ends : goal.decreases-ends
decreases-ends l = l.at
