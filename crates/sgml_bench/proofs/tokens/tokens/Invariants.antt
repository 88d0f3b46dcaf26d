use Rattle.std.proofs.Common.{◌≤◌, ◌-◌, length}
use Rattle.sgml_bench.proofs.tokens.tokens.Given as goal

abbrev pub invariant-tokens : goal.invariant-tokens
invariant-tokens g l = l.at ≤ length l.text

abbrev pub decreases-tokens : goal.decreases-tokens
decreases-tokens g l = length l.text - l.at
