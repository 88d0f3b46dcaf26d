use Rattle.sgml_theory_written.proofs.Covering.{alike-take-alike}
use Rattle.sgml_theory_written.proofs.Freely.{moves-freely}
use Rattle.sgml_theory_written.proofs.moves_may_be_freely_rewritten.Goals as goal

pub returns-clause-rewritten : goal.returns-clause-rewritten
returns-clause-rewritten c = moves-freely

pub returns-clause-alike : goal.returns-clause-alike
returns-clause-alike c = alike-take-alike
