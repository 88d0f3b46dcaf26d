use Rattle.std.proofs.Common.{arith}
use Rattle.sgml_esis.proofs.Holding.{puts_as}
use Rattle.sgml_full.proofs.Numbers.{one_digit, two_digits, three_digits}
use Rattle.sgml_full.proofs.spelling.put_decimal.Goals as goal

pub returns-then-b-ge100 : goal.returns-then-b-ge100
returns-then-b-ge100 g c = puts_as _ _ _ _ _ _ _ _ (three_digits c.args.b (omega (arith, c.if-b-ge100.true)) (omega arith)) c.put.ensures

pub returns-then-b-ge10 : goal.returns-then-b-ge10
returns-then-b-ge10 g c = puts_as _ _ _ _ _ _ _ _ (two_digits c.args.b (omega (arith, c.if-b-ge10.true)) (omega (arith, c.if-b-ge100.false))) c.put-then-b-ge10.ensures

pub returns-else-b-ge10 : goal.returns-else-b-ge10
returns-else-b-ge10 g c = puts_as _ _ _ _ _ _ _ _ (one_digit c.args.b (omega (arith, c.if-b-ge10.false))) c.put-else-b-ge10.ensures
