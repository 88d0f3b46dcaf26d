use Rattle.std.proofs.Common.{◌≡◌, ◌≤◌, ◌-◌, length}
use Rattle.sgml_markup.specs.Forms.{unclosed}
use Rattle.sgml_starts.specs.SoFar.{FillsOn, ready_at}
use Rattle.sgml_starts.proofs.filling.Start.take_calm.Given as goal

abbrev pub invariant-specifications : goal.invariant-specifications
invariant-specifications l = record {
  values : length l.filled.values.items ≡ length l.fn.filled.values.items;
  flags : length l.filled.specified.items ≡ length l.fn.filled.specified.items;
  within : l.at ≤ length (unclosed l.tag);
  fills : FillsOn l.self l.tag l.from l.fn.filled l.at l.filled;
  fewer : length (ready_at l.self l.tag l.at) ≤ length (ready_at l.self l.tag l.from);
}

abbrev pub decreases-specifications : goal.decreases-specifications
decreases-specifications l = length (unclosed l.tag) - l.at
