use Rattle.std.proofs.Common.{◌≡◌, ◌+◌, length, take}
use Rattle.sgml_dtd_elements.specs.Naming.{with_names, is_twice}
use Rattle.sgml_dtd_elements.proofs.naming.enter_names.Given as goal

abbrev pub invariant-names : goal.invariant-names
invariant-names l = record {
  made : with_names l.index l.rest ≡ with_names l.fn.index l.names;
  twice : is_twice l.index l.rest ≡ is_twice l.fn.index l.names;
  front : take (length l.fn.index) l.index ≡ l.fn.index;
  count : length l.index + length l.rest ≡ length l.fn.index + length l.names;
}

abbrev pub decreases-names : goal.decreases-names
decreases-names l = length l.rest
