use Rattle.std.proofs.Common.{◌≡◌, false, take}
use Rattle.std.specs.List.{list_any}
use Rattle.sgml_attr.specs.Tokens.{token_of}
use Rattle.sgml_attr.specs.Matching.{has_member}
use Rattle.sgml_attr.proofs.matching.any_member.Given as goal

abbrev pub invariant-loop-definition : goal.invariant-loop-definition
invariant-loop-definition l = list_any (λ d. has_member (token_of l.folding l.units) d.declared) (take l.definition-index l.definitions) ≡ false
