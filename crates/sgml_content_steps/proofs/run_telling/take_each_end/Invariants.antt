use Rattle.std.proofs.Common.{◌≡◌, ◌+◌, ◌++◌, drop, length, vec_capacity}
use Rattle.sgml_content_steps.specs.Begun.{all_ended_in, ends_told}
use Rattle.sgml_content_steps.proofs.run_telling.take_each_end.Given as goal

abbrev pub invariant-ends : goal.invariant-ends
invariant-ends l = record {
  inside : all_ended_in (drop l.at l.tree.ended.items) l.inside ≡ all_ended_in l.tree.ended.items l.fn.inside;
  told : l.told.items ++ ends_told (drop l.at l.tree.ended.items) ≡ l.fn.told.items ++ ends_told l.tree.ended.items;
  count : length l.told.items ≡ length l.fn.told.items + l.at;
  capacity : vec_capacity l.told ≡ vec_capacity l.fn.told;
}
