use Rattle.std.proofs.Common.{◌≡◌, false, take}
use Rattle.std.specs.List.{list_any}
use Rattle.sgml_dtd_attlists.specs.Rows.{is_in_no_group}
use Rattle.sgml_dtd_attlists.proofs.rows.any_in_no_group.Given as goal

abbrev pub invariant-loop-refusal : goal.invariant-loop-refusal
invariant-loop-refusal l = list_any is_in_no_group (take l.refusal-index l.refusals) ≡ false
