use Rattle.std.proofs.Common.{◌≡◌, ◌≤◌, false, length, drop}
use Rattle.sgml_marked.specs.Opened.{is_open_at}
use Rattle.sgml_marked.proofs.sections.last_at.Given as goal

abbrev pub invariant-search : goal.invariant-search
invariant-search l = record {
  within : l.n ≤ length l.sections;
  none : is_open_at l.level (drop l.n l.sections) ≡ false;
}

abbrev pub decreases-search : goal.decreases-search
decreases-search l = l.n
