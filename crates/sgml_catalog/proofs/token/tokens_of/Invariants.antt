use Rattle.std.proofs.Common.{◌≤◌, ◌-◌, length}
use Rattle.sgml_catalog.proofs.Spelled.{GoesOn}
use Rattle.sgml_catalog.proofs.token.tokens_of.Given as goal

abbrev pub invariant-loop-tokens : goal.invariant-loop-tokens
invariant-loop-tokens l = (l.at ≤ length l.text) × GoesOn l.text l.at l.tokens.items

abbrev pub decreases-loop-tokens : goal.decreases-loop-tokens
decreases-loop-tokens l = length l.text - l.at
