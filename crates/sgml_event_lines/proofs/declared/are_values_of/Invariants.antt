use Rattle.std.proofs.Common.{◌≡◌, true, take}
use Rattle.std.specs.List.{list_all}
use Rattle.sgml_event_lines.specs.Marks.{is_value_of}
use Rattle.sgml_event_lines.proofs.declared.are_values_of.Given as goal

abbrev pub invariant-loop-value : goal.invariant-loop-value
invariant-loop-value l = list_all (is_value_of l.dtd) (take l.value-index l.values) ≡ true
