use Rattle.std.proofs.Common.{ap, ◌∙◌, subst}
use Rattle.sgml_theory_reading.specs.Types.{is_declared}
use Rattle.sgml_infer.specs.Visibles.{IsNumbered}
use Rattle.sgml_infer.proofs.Declared.{is-declared}
use Rattle.sgml_infer.proofs.standing.Standing.fit.Goals as goal

pub fit_of_start-requires-clause-declared : goal.fit_of_start-requires-clause-declared
fit_of_start-requires-clause-declared c =
    let t = c.args.self.now.dtd.now in
    ap (is_declared t) c.name.ensures ∙ is-declared t c.in-Start.n c.requires.standing.distinct (subst (IsNumbered t) c.in-Start.is c.requires.number)
