use Rattle.std.proofs.Common.{◌≡◌, true, take, nat_lt}
use Rattle.std.specs.List.{list_all}
use Rattle.sgml_attr.proofs.literal.are_apart.Given as goal

abbrev pub invariant-loop-b : goal.invariant-loop-b
invariant-loop-b l = list_all (nat_lt 32) (take l.b-index l.bytes) ≡ true
