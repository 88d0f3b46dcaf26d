use Rattle.std.proofs.Common.{◌≡◌, true, take}
use Rattle.std.specs.List.{list_all}
use Rattle.sgml_attr.specs.Rows.{is_data_entity}
use Rattle.sgml_attr.proofs.rows.all_data.Given as goal

abbrev pub invariant-loop-name : goal.invariant-loop-name
invariant-loop-name l = list_all (is_data_entity l.entities.entities) (take l.name-index l.names) ≡ true
