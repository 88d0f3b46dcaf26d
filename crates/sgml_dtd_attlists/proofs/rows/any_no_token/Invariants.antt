use Rattle.std.proofs.Common.{◌≡◌, false, take}
use Rattle.std.specs.List.{list_any}
use Rattle.sgml_dtd_attlists.specs.Rows.{is_no_token}
use Rattle.sgml_dtd_attlists.proofs.rows.any_no_token.Given as goal

abbrev pub invariant-loop-refusal : goal.invariant-loop-refusal
invariant-loop-refusal l = list_any is_no_token (take l.refusal-index l.refusals) ≡ false
