use Rattle.std.proofs.Common.{◌≤◌, ◌<◌, ◌-◌, ℕ, length, drop}
use Rattle.sgml_scan.specs.Tokens.{IsOne}
use Rattle.sgml_scan.proofs.stretches.stretch.Given as goal

abbrev pub invariant-chars : goal.invariant-chars
invariant-chars l =
    (l.n ≤ length l.text) × ((i : ℕ) → i < l.n → IsOne l.syntax l.state l.ended l.run (drop i l.text))

abbrev pub decreases-chars : goal.decreases-chars
decreases-chars l = length l.text - l.n
