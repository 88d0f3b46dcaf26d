use Rattle.std.proofs.Common.{◌≡◌, ◌++◌, [], List, ℕ, drop}
use Rattle.sgml_names.specs.Index.{found}
use Rattle.sgml_attr.specs.Finding.{names_from, members_from, only_after}
use Rattle.sgml_attr.proofs.index.AttributeIndex.of.Given as goal

abbrev pub invariant-loop-i : goal.invariant-loop-i
invariant-loop-i l = record {
  named : (name : List ℕ) → found (l.index.names ++ names_from l.i (drop l.i l.definitions)) name ≡ found (names_from 0 l.definitions) name;
  only : (name : List ℕ) → only_after l.index.members l.index.shared (members_from l.i (drop l.i l.definitions)) name ≡ only_after [] [] (members_from 0 l.definitions) name;
}
