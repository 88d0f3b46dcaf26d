use Rattle.std.proofs.Common.{◌∙◌, ap, sym, refl}
use Rattle.sgml_markup.specs.QuickTags.{begins_with}
use Rattle.sgml_markup.proofs.QuickCode.{judged-begins}
use Rattle.sgml_markup.proofs.quick.judged_literal.Goals as goal

pub returns-then-is_fine-clause-quick : goal.returns-then-is_fine-clause-quick
returns-then-is_fine-clause-quick c =
    let rest = c.after-rest.result.now in
    let n = c.length_before-n.result in
    judged-begins c.args.syntax.now c.args.q n c.args.text.now rest c.requires.quote c.requires.begins c.after-rest.ensures
    c.length_before-n.ensures.value
    (ap (begins_with c.args.q) (sym c.after.ensures) ∙ sym c.begins_with.ensures.value ∙ c.if-begins_with.true)
    (c.if-is_fine.ensures refl)
