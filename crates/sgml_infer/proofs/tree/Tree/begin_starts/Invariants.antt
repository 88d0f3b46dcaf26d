use Rattle.std.proofs.Common.{◌≡◌, ◌+◌, ◌-◌, ◌≤◌, length, take}
use Rattle.sgml_infer.specs.Trees.{open_levels, levels_of, IsTreeOf}
use Rattle.sgml_infer.specs.Seen.{seen_with}
use Rattle.sgml_infer.proofs.tree.Tree.begin_starts.Given as goal

abbrev pub invariant-starts : goal.invariant-starts
invariant-starts l = record {
  levels : levels_of l.dtd (open_levels l.self) ≡ (seen_with l.dtd (open_levels l.fn.self) l.fn.self.begun (take l.at l.fn.self.starts.items)).levels;
  begun : l.self.begun ≡ (seen_with l.dtd (open_levels l.fn.self) l.fn.self.begun (take l.at l.fn.self.starts.items)).begun;
  depth : l.self.depth ≡ l.fn.self.depth + l.at;
  within : l.at ≤ length l.fn.self.starts.items;
  ended : l.self.ended ≡ l.fn.self.ended;
  starts : l.self.starts ≡ l.fn.self.starts;
  tree : IsTreeOf l.dtd l.self;
}

abbrev pub decreases-starts : goal.decreases-starts
decreases-starts l = length l.fn.self.starts.items - l.at
