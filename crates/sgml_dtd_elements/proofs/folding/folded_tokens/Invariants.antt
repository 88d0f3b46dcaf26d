use Rattle.std.proofs.Common.{◌≡◌, map, take}
use Rattle.sgml_dtd_elements.specs.Folded.{folded_token}
use Rattle.sgml_dtd_elements.proofs.folding.folded_tokens.Given as goal

abbrev pub invariant-loop-token : goal.invariant-loop-token
invariant-loop-token l = l.all.items ≡ map (folded_token l.syntax) (take l.token-index l.tokens)
