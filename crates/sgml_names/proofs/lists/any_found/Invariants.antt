use Rattle.std.proofs.Common.{◌≡◌, false, is_some, take}
use Rattle.std.specs.List.{list_any}
use Rattle.sgml_names.specs.Index.{found}
use Rattle.sgml_names.proofs.lists.any_found.Given as goal

abbrev pub invariant-loop-name : goal.invariant-loop-name
invariant-loop-name l = list_any (λ name. is_some (found l.table name)) (take l.name-index l.names) ≡ false
