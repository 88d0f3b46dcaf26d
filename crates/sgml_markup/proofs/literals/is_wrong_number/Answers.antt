use Rattle.std.proofs.Common.{sym, arith}
use Rattle.sgml_markup.proofs.Quiet.{quiet-number-at}
use Rattle.sgml_markup.proofs.literals.is_wrong_number.Goals as goal

pub returns-in-empty : goal.returns-in-empty
returns-in-empty c = sym (quiet-number-at c.args.syntax.now c.args.text.now (λ l e. absurd (omega (arith, l, c.in-empty.len_below))))

pub returns-else-b-eq38 : goal.returns-else-b-eq38
returns-else-b-eq38 c = sym (quiet-number-at c.args.syntax.now c.args.text.now (λ l e. c.if-b-eq38.false e))
