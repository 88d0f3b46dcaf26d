use Rattle.std.proofs.Common.{◌≡◌, false, take}
use Rattle.std.specs.List.{list_any}
use Rattle.sgml_dtd_attlists.specs.Interpreted.{default_units}
use Rattle.sgml_dtd_attlists.specs.Rows.{is_past}
use Rattle.sgml_dtd_attlists.proofs.rows.any_past.Given as goal

abbrev pub invariant-loop-definition : goal.invariant-loop-definition
invariant-loop-definition l = list_any (λ d. is_past l.limit (default_units d.default)) (take l.definition-index l.definitions) ≡ false
