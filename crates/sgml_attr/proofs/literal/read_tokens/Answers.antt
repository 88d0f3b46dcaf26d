use Rattle.std.proofs.Common.{◌∙◌, ap, [], List, fold}
use Rattle.std.proofs.lemmas.List.{take_all}
use Rattle.sgml_text.specs.declared.unit.Unit.{Unit as AnyUnit}
use Rattle.sgml_attr.specs.declared.literal.Gap.{Gap}
use Rattle.sgml_attr.specs.declared.literal.Gap.TheVariants.{Before}
use Rattle.sgml_attr.specs.Spacing.{reading}
use Rattle.sgml_attr.proofs.Joining.{reading-joined}
use Rattle.sgml_attr.proofs.literal.read_tokens.Goals as goal

pub returns : goal.returns
returns c =
    ap (λ (x : List AnyUnit × Gap). x.0) c.loop-unit.invariant
    ∙ ap (λ (x : List AnyUnit). (fold reading ([], Before) x).0) (take_all c.loop-unit.unit-index c.args.units.now c.loop-unit-test.false)
    ∙ reading-joined c.args.units.now
