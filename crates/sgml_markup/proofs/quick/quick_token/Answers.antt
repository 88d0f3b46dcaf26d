use Rattle.std.proofs.Common.{arith}
use Rattle.sgml_markup.proofs.QuickCode.{token-begins}
use Rattle.sgml_markup.proofs.quick.quick_token.Goals as goal

pub returns-then-syntax-clause-quick : goal.returns-then-syntax-clause-quick
returns-then-syntax-clause-quick c =
    token-begins c.args.syntax.now c.name_length-n.result c.args.text.now c.name_length-n.ensures.value (omega (arith, c.if-n-eq0.false))
    c.if-syntax.true
