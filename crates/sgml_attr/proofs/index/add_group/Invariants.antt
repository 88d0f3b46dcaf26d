use Rattle.std.proofs.Common.{◌≡◌, ◌++◌, List, ℕ, drop}
use Rattle.sgml_names.specs.Lists.{with_number}
use Rattle.sgml_attr.specs.Finding.{only_after}
use Rattle.sgml_attr.proofs.index.add_group.Given as goal

abbrev pub invariant-loop-name : goal.invariant-loop-name
invariant-loop-name l =
    (rest : List (List ℕ × ℕ)) (other : List ℕ) → only_after l.members l.shared (with_number l.number (drop l.name-index l.names) ++ rest) other
    ≡ only_after l.fn.members l.fn.shared (with_number l.number l.names ++ rest) other
