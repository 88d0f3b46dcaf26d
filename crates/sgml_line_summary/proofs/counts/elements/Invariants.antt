use Rattle.std.proofs.Common.{◌≡◌, ◌+◌, ◌≤◌, drop}
use Rattle.std.specs.Prelude.{count_by}
use Rattle.sgml_line_summary.specs.Summary.{is_start}
use Rattle.sgml_line_summary.proofs.counts.elements.Given as goal

abbrev pub invariant-loop-line : goal.invariant-loop-line
invariant-loop-line l = record {
  counted : l.count + count_by is_start (drop l.line-index l.lines) ≡ count_by is_start l.lines;
  few : l.count ≤ l.line-index;
}
