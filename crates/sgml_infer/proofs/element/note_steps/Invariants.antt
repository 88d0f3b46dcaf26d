use Rattle.sgml_infer.specs.Trees.{AreSteps}
use Rattle.sgml_infer.proofs.element.note_steps.Given as goal

abbrev pub invariant-loop-level : goal.invariant-loop-level
invariant-loop-level l = AreSteps l.dtd l.steps
