use Rattle.std.proofs.Common.{◌≡◌, ◌+◌, drop, option_map}
use Rattle.sgml_catalog.specs.Tokens.{before_dashes}
use Rattle.sgml_catalog.proofs.item.before_dashes.Given as goal

abbrev pub invariant-loop-at : goal.invariant-loop-at
invariant-loop-at l = option_map (λ n. n + l.at) (before_dashes (drop l.at l.text)) ≡ before_dashes l.text
