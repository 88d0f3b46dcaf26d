use Rattle.sgml_infer.proofs.Accepting.{start-judged, enabled-judged, others-judged}
use Rattle.sgml_infer.proofs.Growing.{plain-at-once}
use Rattle.sgml_infer.proofs.laws.accepted_is_judged.Goals as goal

pub returns-clause-start : goal.returns-clause-start
returns-clause-start c = start-judged

pub returns-clause-changed : goal.returns-clause-changed
returns-clause-changed c = enabled-judged

pub returns-clause-others : goal.returns-clause-others
returns-clause-others c = others-judged

pub returns-clause-at_once : goal.returns-clause-at_once
returns-clause-at_once c = λ k n ss how q size spent. plain-at-once n ss how q size spent k
