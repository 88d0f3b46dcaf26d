use Rattle.std.proofs.Common.{◌≡◌, ◌+◌, ◌*◌, ◌≤◌, ◌++◌, drop, length, reverse, vec_capacity}
use Rattle.sgml_content_steps.specs.Begun.{all_begun_in, starts_told}
use Rattle.sgml_content_steps.proofs.run_telling.take_each_start.Given as goal

abbrev pub invariant-starts : goal.invariant-starts
invariant-starts l = record {
  inside : all_begun_in l.dtd (drop l.at l.tree.starts.items) l.inside ≡ all_begun_in l.dtd l.tree.starts.items l.fn.inside;
  told : l.told.items ++ starts_told l.dtd l.place l.inside (drop l.at l.tree.starts.items) (reverse l.values.items)
      ≡ l.fn.told.items ++ starts_told l.dtd l.place l.fn.inside l.tree.starts.items l.fn.values.items;
  left : l.at + length l.values.items ≡ length l.tree.starts.items;
  levels : length l.inside.elements ≡ length l.fn.inside.elements + l.at;
  room : l.inside.room ≡ l.fn.inside.room;
  few : length l.told.items ≤ length l.fn.told.items + 2 * l.at;
  capacity : vec_capacity l.told ≡ vec_capacity l.fn.told;
}

abbrev pub decreases-starts : goal.decreases-starts
decreases-starts l = length l.values.items
