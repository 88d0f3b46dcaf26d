use Rattle.std.proofs.Common.{map}
use Rattle.sgml_model.specs.ReaderView.{sign}
use Rattle.sgml_model.specs.OutlineView.{outline_of}
use Rattle.sgml_model.proofs.Judging.{IsJudged}
use Rattle.sgml_model.proofs.read.judged.Given as goal

abbrev pub invariant-loop-at : goal.invariant-loop-at
invariant-loop-at l = IsJudged (map sign l.tokens) l.at (outline_of l.outline)
