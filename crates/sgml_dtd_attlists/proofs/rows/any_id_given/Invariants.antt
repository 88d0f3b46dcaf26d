use Rattle.std.proofs.Common.{◌≡◌, ◌&&◌, not, false, take}
use Rattle.std.specs.List.{list_any}
use Rattle.sgml_dtd_attlists.specs.Rows.{is_id, is_left_open}
use Rattle.sgml_dtd_attlists.proofs.rows.any_id_given.Given as goal

abbrev pub invariant-loop-definition : goal.invariant-loop-definition
invariant-loop-definition l = list_any (λ d. is_id d && not (is_left_open d.default)) (take l.definition-index l.definitions) ≡ false
