use Rattle.std.proofs.Common.{◌≡◌, ◌≤◌, ℕ, List, take, length}
use Rattle.sgml_names.specs.Index.{found}
use Rattle.sgml_names.specs.Lists.{has}
use Rattle.sgml_dtd_maps.specs.Numbered.{or_number}
use Rattle.sgml_dtd_maps.proofs.table.add_targets.Given as goal

abbrev pub invariant-names : goal.invariant-names
invariant-names l = record {
  all : (q : List ℕ) → or_number (found l.table q) (has l.rest q) l.number ≡ or_number (found l.fn.table q) (has l.fn.names q) l.fn.number;
  front : take (length l.fn.table) l.table ≡ l.fn.table;
  longer : length l.fn.table ≤ length l.table;
}

abbrev pub decreases-names : goal.decreases-names
decreases-names l = length l.rest
