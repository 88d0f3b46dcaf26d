use Rattle.std.proofs.Common.{◌≡◌, ◌++◌, length, take}
use Rattle.sgml_names.specs.Index.{names_of}
use Rattle.sgml_names.specs.Lists.{repeats}
use Rattle.sgml_names.proofs.lists.any_seen.Given as goal

abbrev pub invariant-names : goal.invariant-names
invariant-names l = record {
  again : repeats (names_of l.seen) l.rest ≡ repeats (names_of l.fn.seen) l.fn.names;
  all : names_of l.seen ++ l.rest ≡ names_of l.fn.seen ++ l.fn.names;
  front : take (length l.fn.seen) l.seen ≡ l.fn.seen;
}

abbrev pub decreases-names : goal.decreases-names
decreases-names l = length l.rest
