use Rattle.std.proofs.Common.{◌≤◌, ◌+◌, ◌-◌, ℕ, length, drop}
use Rattle.sgml_markup.specs.QuickTags.{EndsQuickly}
use Rattle.sgml_markup.proofs.quick.quick_rest.Given as goal

abbrev pub invariant-specifications : goal.invariant-specifications
invariant-specifications l = record {
  within : l.at ≤ length l.text;
  goes_on : (n : ℕ) → EndsQuickly l.syntax (drop l.at l.text) n → EndsQuickly l.syntax l.text (l.at + n);
}

abbrev pub decreases-specifications : goal.decreases-specifications
decreases-specifications l = length l.text - l.at
