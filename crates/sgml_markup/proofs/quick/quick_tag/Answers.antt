use Rattle.std.proofs.Common.{◌∙◌, ap, sym, subst, arith, drop, refl}
use Rattle.sgml_markup.specs.Forms.{begins_tagc}
use Rattle.sgml_markup.specs.QuickTags.{EndsQuickly}
use Rattle.sgml_delim.proofs.Deciding.{true-false}
use Rattle.sgml_markup.proofs.QuickCode.{quick-end, quick-tag}
use Rattle.sgml_markup.proofs.quick.quick_tag.Goals as goal

pub returns-then-begins_tagc-clause-quick : goal.returns-then-begins_tagc-clause-quick
returns-then-begins_tagc-clause-quick c =
    let s = c.args.syntax.now in
    let n = c.name_length-name.result in
    let text = c.args.text.now in
    quick-tag s c.args.closing n 1 text c.name_length-name.ensures.value (omega (arith, c.if-name-eq0.false))
    (sym c.too_long.ensures ∙ c.if-too_long.false)
    (quick-end s (drop n text) (ap begins_tagc (sym c.after-rest.ensures) ∙ sym c.begins_tagc.ensures.value ∙ c.if-begins_tagc.true))
    (λ e. refl)

pub returns-in-Some-clause-quick : goal.returns-in-Some-clause-quick
returns-in-Some-clause-quick c =
    let s = c.args.syntax.now in
    let n = c.name_length-name.result in
    let text = c.args.text.now in
    quick-tag s c.args.closing n c.in-Some.n text c.name_length-name.ensures.value (omega (arith, c.if-name-eq0.false))
    (sym c.too_long.ensures ∙ c.if-too_long.false)
    (subst (λ xs. EndsQuickly s xs c.in-Some.n) c.after-rest.ensures c.in-Some.ensures.quick)
    (λ e. absurd (true-false (sym c.if-closing.false ∙ e)))
