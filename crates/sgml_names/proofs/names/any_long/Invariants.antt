use Rattle.std.proofs.Common.{◌≡◌, false, take}
use Rattle.std.specs.List.{list_any}
use Rattle.sgml_names.specs.Naming.{is_long}
use Rattle.sgml_names.proofs.names.any_long.Given as goal

abbrev pub invariant-loop-name : goal.invariant-loop-name
invariant-loop-name l = list_any (is_long l.syntax) (take l.name-index l.names) ≡ false
