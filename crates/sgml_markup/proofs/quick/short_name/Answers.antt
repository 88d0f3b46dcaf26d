use Rattle.std.proofs.Common.{◌∙◌, sym}
use Rattle.sgml_markup.proofs.QuickCode.{name-begins}
use Rattle.sgml_markup.proofs.quick.short_name.Goals as goal

pub returns-else-too_long-clause-quick : goal.returns-else-too_long-clause-quick
returns-else-too_long-clause-quick c = λ some.
    name-begins c.args.syntax.now c.name_length-n.result c.args.text.now (sym c.begins_start.ensures ∙ c.if-not-begins_start.false)
    c.name_length-n.ensures.value (sym c.too_long.ensures ∙ c.if-too_long.false)
