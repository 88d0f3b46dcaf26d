use Rattle.std.proofs.Common.{◌≡◌, ◌≤◌, ◌-◌, length, drop}
use Rattle.sgml_delim.specs.declared.ends.Inside.TheVariants.{Between}
use Rattle.sgml_delim.specs.Ends.{end_after, later}
use Rattle.sgml_delim.proofs.ends.end_after.Given as goal

abbrev pub invariant-bytes : goal.invariant-bytes
invariant-bytes l = record {
  within : l.i ≤ length l.text;
  found : end_after l.names l.ender Between l.text ≡ later l.i (end_after l.names l.ender l.inside (drop l.i l.text));
}

abbrev pub decreases-bytes : goal.decreases-bytes
decreases-bytes l = length l.text - l.i
