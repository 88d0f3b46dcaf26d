use Rattle.std.proofs.Common.{◌≡◌, ◌≤◌, ◌-◌, List, length, drop}
use Rattle.sgml_attr.specs.declared.definition.Spec.{Spec}
use Rattle.sgml_starts.specs.Values.{reason_of_defaults}
use Rattle.sgml_starts.specs.Filled.{AreFilled, AreFilledTo}
use Rattle.sgml_starts.proofs.filling.Start.fill_up.Given as goal

abbrev pub invariant-definitions : goal.invariant-definitions
invariant-definitions l = record {
  within : l.i ≤ length l.self.definitions;
  rest : l.filled ≡ record l.fn.filled { values = l.filled.values };
  many : length l.filled.values.items ≡ length l.self.definitions;
  filled : (ss : List Spec) → AreFilled l.self ss l.fn.filled → AreFilledTo l.self ss l.i l.filled;
  none : (ss : List Spec) → AreFilled l.self ss l.fn.filled
      → reason_of_defaults l.self ss 0 l.self.definitions ≡ reason_of_defaults l.self ss l.i (drop l.i l.self.definitions);
}

abbrev pub decreases-definitions : goal.decreases-definitions
decreases-definitions l = length l.self.definitions - l.i
