use Rattle.std.proofs.Common.{sym}
use Rattle.sgml_infer.proofs.Points.{inner-start, inner-level}
use Rattle.sgml_infer.proofs.standing.Standing.inner.Goals as goal

pub returns-in-Some : goal.returns-in-Some
returns-in-Some c = inner-start c.args.self.now c.requires c.in-Some.element.now (sym c.in-Some.ensures.value)

pub returns-in-Some-last : goal.returns-in-Some-last
returns-in-Some-last c = inner-level c.args.self.now c.requires c.in-Some-last.level.now (sym c.in_default.ensures.value) (sym c.in-Some-last.ensures.value)
