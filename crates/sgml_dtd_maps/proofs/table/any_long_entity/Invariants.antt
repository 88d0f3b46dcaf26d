use Rattle.std.proofs.Common.{◌≡◌, false, take}
use Rattle.std.specs.List.{list_any}
use Rattle.sgml_names.specs.Naming.{is_long}
use Rattle.sgml_dtd_maps.proofs.table.any_long_entity.Given as goal

abbrev pub invariant-loop-pair : goal.invariant-loop-pair
invariant-loop-pair l = list_any (λ p. is_long l.syntax p.1) (take l.pair-index l.pairs) ≡ false
