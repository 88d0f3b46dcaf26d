use Rattle.sgml_infer.specs.Seen.{seen}
use Rattle.sgml_infer.proofs.First.{first-numbered, first-required}
use Rattle.sgml_infer.proofs.standing.Standing.first.Goals as goal

pub returns-in-Some-clause-number : goal.returns-in-Some-clause-number
returns-in-Some-clause-number c =
    first-numbered c.args.self.now.dtd.now c.in-Some.inner.element c.in-Some.inner.position c.in-Some.inner.state.now (seen c.args.self.now) c.requires.distinct c.in-Some.ensures c.first_in.result c.first_in.ensures

pub returns-in-Some-clause-required : goal.returns-in-Some-clause-required
returns-in-Some-clause-required c =
    first-required c.args.self.now.dtd.now c.in-Some.inner.element c.in-Some.inner.position c.in-Some.inner.state.now (seen c.args.self.now) c.requires.distinct c.in-Some.ensures c.first_in.result c.first_in.ensures
