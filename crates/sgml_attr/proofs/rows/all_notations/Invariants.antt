use Rattle.std.proofs.Common.{◌≡◌, true, take}
use Rattle.std.specs.List.{list_all}
use Rattle.sgml_attr.specs.Rows.{is_declared_notation}
use Rattle.sgml_attr.proofs.rows.all_notations.Given as goal

abbrev pub invariant-loop-name : goal.invariant-loop-name
invariant-loop-name l = list_all (is_declared_notation l.entities.notations) (take l.name-index l.names) ≡ true
