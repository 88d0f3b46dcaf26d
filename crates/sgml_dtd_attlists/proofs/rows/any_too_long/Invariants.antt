use Rattle.std.proofs.Common.{◌≡◌, false, take}
use Rattle.std.specs.List.{list_any}
use Rattle.sgml_dtd_attlists.specs.Rows.{is_too_long}
use Rattle.sgml_dtd_attlists.proofs.rows.any_too_long.Given as goal

abbrev pub invariant-loop-refusal : goal.invariant-loop-refusal
invariant-loop-refusal l = list_any is_too_long (take l.refusal-index l.refusals) ≡ false
