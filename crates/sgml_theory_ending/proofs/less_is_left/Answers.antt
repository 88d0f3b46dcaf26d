use Rattle.sgml_theory_ending.proofs.Falling.{less-is-left}
use Rattle.sgml_theory_ending.proofs.less_is_left.Goals as goal

pub returns : goal.returns
returns c = less-is-left
