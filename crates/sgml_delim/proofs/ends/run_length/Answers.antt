use Rattle.std.proofs.Common.{refl}
use Rattle.sgml_delim.specs.Ends.{stays_in}
use Rattle.sgml_delim.proofs.Runs.{none-stays}
use Rattle.sgml_delim.proofs.ends.run_length.Goals as goal

pub returns-in-Between-clause-value : goal.returns-in-Between-clause-value
returns-in-Between-clause-value c = rw c.in-Between.is (none-stays _ c.args.bytes.now (λ b. refl))

pub returns-in-Minus-clause-value : goal.returns-in-Minus-clause-value
returns-in-Minus-clause-value c = rw c.in-Minus.is (none-stays _ c.args.bytes.now (λ b. refl))

pub returns-in-CommentMinus-clause-value : goal.returns-in-CommentMinus-clause-value
returns-in-CommentMinus-clause-value c = rw c.in-CommentMinus.is (none-stays _ c.args.bytes.now (λ b. refl))
