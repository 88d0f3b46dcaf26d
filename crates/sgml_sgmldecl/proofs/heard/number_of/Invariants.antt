use Rattle.std.proofs.Common.{◌≡◌, min, take}
use Rattle.sgml_sgmldecl.specs.Heard.{number_value, greatest_number}
use Rattle.sgml_sgmldecl.proofs.heard.number_of.Given as goal

abbrev pub invariant-loop-b : goal.invariant-loop-b
invariant-loop-b l = l.number ≡ min (number_value (take l.b-index l.digits)) greatest_number
