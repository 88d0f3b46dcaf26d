use Rattle.std.proofs.Common.{◌≡◌, [], take, fold}
use Rattle.sgml_attr.specs.declared.literal.Gap.TheVariants.{Before}
use Rattle.sgml_attr.specs.Spacing.{reading}
use Rattle.sgml_attr.proofs.literal.read_tokens.Given as goal

abbrev pub invariant-loop-unit : goal.invariant-loop-unit
invariant-loop-unit l = (l.read.items, l.gap) ≡ fold reading ([], Before) (take l.unit-index l.units)
