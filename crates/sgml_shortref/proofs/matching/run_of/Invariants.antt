use Rattle.std.proofs.Common.{◌≡◌, ◌+◌, drop}
use Rattle.sgml_shortref.specs.Matches.{blanks, next_after}
use Rattle.sgml_shortref.proofs.matching.run_of.Given as goal

abbrev pub invariant-loop-i : goal.invariant-loop-i
invariant-loop-i l = record {
  count : blanks l.text ≡ l.i + blanks (drop l.i l.text);
  next : next_after l.text ≡ next_after (drop l.i l.text);
}
