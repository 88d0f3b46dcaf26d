use Rattle.std.proofs.Common.{◌≡◌, true, take}
use Rattle.std.specs.List.{list_all}
use Rattle.sgml_attr.specs.Rows.{is_in_group}
use Rattle.sgml_attr.proofs.rows.all_in_group.Given as goal

abbrev pub invariant-loop-name : goal.invariant-loop-name
invariant-loop-name l = list_all (is_in_group l.declared) (take l.name-index l.names) ≡ true
