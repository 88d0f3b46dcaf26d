use Rattle.std.proofs.Common.{subst, arith}
use Rattle.sgml_markup.specs.QuickTags.{BeginsAttribute}
use Rattle.sgml_markup.proofs.QuickCode.{specification-begins}
use Rattle.sgml_markup.proofs.quick.quick_specification.Goals as goal

pub returns-in-Some-clause-quick : goal.returns-in-Some-clause-quick
returns-in-Some-clause-quick c =
    specification-begins c.args.syntax.now c.separators-gap.result c.in-Some.n c.args.text.now c.separators-gap.ensures.value
    (omega (arith, c.if-gap-eq0.false))
    (subst (λ xs. BeginsAttribute c.args.syntax.now xs c.in-Some.n) c.after.ensures c.in-Some.ensures.quick)
