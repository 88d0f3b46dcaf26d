use Rattle.std.proofs.Common.{◌≡◌, ◌≤◌, ◌∙◌, refl, sym, ap, subst, arith, length, false}
use Rattle.sgml_text.specs.Units.{characters}
use Rattle.sgml_attr.specs.declared.value.AttrValue.{AttrValue}
use Rattle.sgml_attr.specs.declared.value.AttrValue.TheVariants.{Cdata}
use Rattle.sgml_starts.specs.Plain.{is_fixed, IsCalmValue}
use Rattle.sgml_starts.proofs.Plain.{if-some}
use Rattle.sgml_starts.proofs.Calm.{calm-value, data-same, data-is}
use Rattle.sgml_starts.proofs.Several.{listed-value}
use Rattle.sgml_starts.proofs.judging.calm_value.Goals as goal

pub returns-in-Cdata : goal.returns-in-Cdata
returns-in-Cdata c =
    let s = c.args.syntax.now in
    let x = c.args.definition.now in
    let bytes = c.args.bytes.now in
    let free : is_fixed x.default ≡ false = sym c.is_fixed.ensures ∙ c.if-is_fixed.false in
    if-some c.data.result c.data.ensures
    (λ v e. subst (IsCalmValue s x bytes) (sym e)
    (calm-value s x bytes (Cdata (characters bytes)) (omega (arith, c.if-bytes-syntax.false)) (data-same x.declared bytes c.in-Cdata.is c.requires) (data-is s x bytes c.in-Cdata.is free)))

pub returns-then-is_list : goal.returns-then-is_list
returns-then-is_list c =
    let s = c.args.syntax.now in
    let x = c.args.definition.now in
    let bytes = c.args.bytes.now in
    let free : is_fixed x.default ≡ false = sym c.is_fixed.ensures ∙ c.if-is_fixed.false in
    if-some c.listed_value.result c.listed_value.ensures (λ v is. listed-value s x bytes v (omega (arith, c.if-bytes-syntax.false)) free c.requires is)

pub returns : goal.returns
returns c =
    let s = c.args.syntax.now in
    let x = c.args.definition.now in
    let bytes = c.args.bytes.now in
    if-some c.plain_value.result c.plain_value.ensures
    (λ v is. calm-value s x bytes v (omega (arith, c.if-bytes-syntax.false)) (c.if-not-are_apart.ensures.same refl x.declared) is)
