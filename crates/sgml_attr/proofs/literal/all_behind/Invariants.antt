use Rattle.std.proofs.Common.{◌≡◌, true, take}
use Rattle.std.specs.List.{list_all}
use Rattle.sgml_attr.specs.Literal.{is_behind}
use Rattle.sgml_attr.proofs.literal.all_behind.Given as goal

abbrev pub invariant-loop-unit : goal.invariant-loop-unit
invariant-loop-unit l = list_all (is_behind l.last) (take l.unit-index l.units) ≡ true
