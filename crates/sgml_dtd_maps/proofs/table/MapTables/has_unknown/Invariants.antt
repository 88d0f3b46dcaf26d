use Rattle.std.proofs.Common.{◌≡◌, false, take}
use Rattle.std.specs.List.{list_any}
use Rattle.sgml_dtd_maps.specs.Tables.{is_undeclared}
use Rattle.sgml_dtd_maps.proofs.table.MapTables.has_unknown.Given as goal

abbrev pub invariant-loop-used : goal.invariant-loop-used
invariant-loop-used l = list_any (λ u. is_undeclared l.self.maps u.map) (take l.used-index l.self.uses) ≡ false
