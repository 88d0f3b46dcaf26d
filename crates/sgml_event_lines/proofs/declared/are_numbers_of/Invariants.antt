use Rattle.std.proofs.Common.{◌≡◌, true, take}
use Rattle.std.specs.List.{list_all}
use Rattle.sgml_event_lines.specs.Marks.{is_number_of}
use Rattle.sgml_event_lines.proofs.declared.are_numbers_of.Given as goal

abbrev pub invariant-loop-number : goal.invariant-loop-number
invariant-loop-number l = list_all (is_number_of l.dtd) (take l.number-index l.numbers) ≡ true
