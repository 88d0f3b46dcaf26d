use Rattle.std.proofs.Common.{◌≡◌, false, take}
use Rattle.std.specs.List.{list_any}
use Rattle.sgml_dtd_elements.specs.Rows.{is_long_token}
use Rattle.sgml_dtd_elements.proofs.judging.any_long_token.Given as goal

abbrev pub invariant-loop-token : goal.invariant-loop-token
invariant-loop-token l = list_any (is_long_token l.syntax) (take l.token-index l.tokens) ≡ false
