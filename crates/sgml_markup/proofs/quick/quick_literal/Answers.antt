use Rattle.std.proofs.Common.{◌∙◌, ap, sym}
use Rattle.sgml_markup.specs.QuickTags.{begins_with}
use Rattle.sgml_markup.proofs.QuickCode.{literal-begins}
use Rattle.sgml_markup.proofs.quick.quick_literal.Goals as goal

pub returns-then-begins_with-clause-quick : goal.returns-then-begins_with-clause-quick
returns-then-begins_with-clause-quick c =
    let rest = c.after-rest.result.now in
    let n = c.calm_length-n.result in
    literal-begins c.args.syntax.now c.args.q n c.args.text.now rest c.requires.quote c.requires.begins c.after-rest.ensures
    c.calm_length-n.ensures.value
    (ap (begins_with c.args.q) (sym c.after.ensures) ∙ sym c.begins_with.ensures.value ∙ c.if-begins_with.true)
