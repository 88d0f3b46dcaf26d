use Rattle.std.proofs.Common.{◌≡◌, false, take, length}
use Rattle.std.specs.Prelude.{nat_lt}
use Rattle.std.specs.List.{list_any}
use Rattle.sgml_dtd_maps.proofs.table.any_past.Given as goal

abbrev pub invariant-loop-pair : goal.invariant-loop-pair
invariant-loop-pair l = list_any (λ p. nat_lt l.limit (length p.0)) (take l.pair-index l.pairs) ≡ false
