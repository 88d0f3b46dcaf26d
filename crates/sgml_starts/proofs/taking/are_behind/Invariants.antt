use Rattle.std.proofs.Common.{◌≡◌, true, take, nat_lt}
use Rattle.std.specs.List.{list_all}
use Rattle.sgml_starts.proofs.taking.are_behind.Given as goal

abbrev pub invariant-loop-b : goal.invariant-loop-b
invariant-loop-b l = list_all (nat_lt 31) (take l.b-index l.bytes) ≡ true
