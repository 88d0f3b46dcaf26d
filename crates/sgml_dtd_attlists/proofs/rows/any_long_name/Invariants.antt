use Rattle.std.proofs.Common.{◌≡◌, false, take}
use Rattle.std.specs.List.{list_any}
use Rattle.sgml_dtd_attlists.specs.Rows.{has_long_name}
use Rattle.sgml_dtd_attlists.proofs.rows.any_long_name.Given as goal

abbrev pub invariant-loop-definition : goal.invariant-loop-definition
invariant-loop-definition l = list_any (has_long_name l.syntax) (take l.definition-index l.definitions) ≡ false
