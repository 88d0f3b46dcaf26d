use Rattle.std.proofs.Common.{◌≡◌, true, take}
use Rattle.std.specs.List.{list_all}
use Rattle.sgml_text.specs.Characters.{is_digit}
use Rattle.sgml_starts.proofs.judging.are_digits.Given as goal

abbrev pub invariant-loop-b : goal.invariant-loop-b
invariant-loop-b l = list_all is_digit (take l.b-index l.bytes) ≡ true
