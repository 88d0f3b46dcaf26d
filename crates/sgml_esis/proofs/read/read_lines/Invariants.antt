use Rattle.std.proofs.Common.{◌≤◌, ◌-◌, length, drop, vec_len, true}
use Rattle.sgml_esis.specs.Grammar.{Front}
use Rattle.sgml_esis.proofs.read.read_lines.Given as goal

abbrev pub invariant-loop-at : goal.invariant-loop-at
invariant-loop-at l = record {
  within : l.at ≤ length l.bytes;
  front : Front true l.bytes l.lines.items (drop l.at l.bytes);
  count : vec_len l.lines ≤ l.at;
}

abbrev pub decreases-loop-at : goal.decreases-loop-at
decreases-loop-at l = length l.bytes - l.at
