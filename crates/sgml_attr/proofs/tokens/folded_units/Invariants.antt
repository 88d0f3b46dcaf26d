use Rattle.std.proofs.Common.{◌≡◌, take}
use Rattle.sgml_attr.specs.Tokens.{token_of}
use Rattle.sgml_attr.proofs.tokens.folded_units.Given as goal

abbrev pub invariant-loop-unit : goal.invariant-loop-unit
invariant-loop-unit l = l.bytes.items ≡ token_of l.folding (take l.unit-index l.units)
