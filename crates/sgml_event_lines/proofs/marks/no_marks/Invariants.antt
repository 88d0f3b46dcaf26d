use Rattle.std.proofs.Common.{◌≡◌, ◌≤◌, ◌-◌, ℕ, false, length, get_or}
use Rattle.sgml_event_lines.proofs.marks.no_marks.Given as goal

abbrev pub invariant-marks : goal.invariant-marks
invariant-marks l = record {
  none : (i : ℕ) → get_or l.marks.items i false ≡ false;
  within : length l.marks.items ≤ l.count;
}

abbrev pub decreases-marks : goal.decreases-marks
decreases-marks l = l.count - length l.marks.items
