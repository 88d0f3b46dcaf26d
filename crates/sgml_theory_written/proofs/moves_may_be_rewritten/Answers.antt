use Rattle.sgml_theory_written.proofs.Rewriting.{moves-rewritten, others-are}
use Rattle.sgml_theory_written.proofs.moves_may_be_rewritten.Goals as goal

pub returns-clause-rewritten : goal.returns-clause-rewritten
returns-clause-rewritten c = moves-rewritten

pub returns-clause-others : goal.returns-clause-others
returns-clause-others c = others-are
