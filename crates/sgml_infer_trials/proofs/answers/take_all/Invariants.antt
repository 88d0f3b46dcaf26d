use Rattle.sgml_infer.specs.Trees.{IsTreeOf}
use Rattle.sgml_infer_trials.proofs.answers.take_all.Given as goal

abbrev pub invariant-loop-word : goal.invariant-loop-word
invariant-loop-word l = IsTreeOf l.dtd l.tree
