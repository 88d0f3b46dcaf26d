use Rattle.std.proofs.Common.{refl, sym, subst}
use Rattle.sgml_starts.specs.Plain.{IsPlainValue}
use Rattle.sgml_starts.proofs.Plain.{plain-value, if-some}
use Rattle.sgml_starts.proofs.judging.plain_value.Goals as goal

pub returns-else-not-is_plain : goal.returns-else-not-is_plain
returns-else-not-is_plain c =
    let s = c.args.syntax.now in
    let x = c.args.definition.now in
    if-some c.alone.result c.alone.ensures (λ v e.
    subst (IsPlainValue s x c.args.bytes.now) (sym e)
    (plain-value s x c.args.bytes.now c.in-Ok.name c.requires (c.if-not-may_be_plain.ensures.some refl) (c.if-not-may_be_plain.ensures.short refl)
    (c.if-not-may_be_plain.ensures.free refl) c.in-Ok.ensures (sym c.if-not-is_plain.ensures)))
