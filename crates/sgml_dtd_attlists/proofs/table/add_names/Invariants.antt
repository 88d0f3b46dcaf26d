use Rattle.std.proofs.Common.{◌≡◌, ◌≤◌, ◌++◌, false, take, length}
use Rattle.sgml_names.specs.Index.{names_of}
use Rattle.sgml_names.specs.Lists.{repeats, with_number}
use Rattle.sgml_dtd_attlists.proofs.table.add_names.Given as goal

abbrev pub invariant-names : goal.invariant-names
invariant-names l = record {
  new : repeats (names_of l.index) l.rest ≡ false;
  all : l.index ++ with_number l.number l.rest ≡ l.fn.index ++ with_number l.number l.fn.names;
  front : take (length l.fn.index) l.index ≡ l.fn.index;
  longer : length l.fn.index ≤ length l.index;
}

abbrev pub decreases-names : goal.decreases-names
decreases-names l = length l.rest
