use Rattle.std.proofs.Common.{◌≡◌, ◌≤◌, ◌-◌, length, drop}
use Rattle.sgml_attr.specs.Rows.{same_names}
use Rattle.sgml_attr.proofs.value.same_names.Given as goal

abbrev pub invariant-names : goal.invariant-names
invariant-names l = record {
  within : l.i ≤ length l.a;
  as_long : length l.a ≡ length l.b;
  same : same_names l.a l.b ≡ same_names (drop l.i l.a) (drop l.i l.b);
}

abbrev pub decreases-names : goal.decreases-names
decreases-names l = length l.a - l.i
