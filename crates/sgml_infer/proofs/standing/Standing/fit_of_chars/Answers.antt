use Rattle.std.proofs.Common.{ap, not, ◌∙◌}
use Rattle.sgml_infer.specs.Seen.{seen}
use Rattle.sgml_infer.proofs.Asked.{characters-allowed}
use Rattle.sgml_infer.proofs.standing.Standing.fit_of_chars.Goals as goal

pub returns-clause-misfit : goal.returns-clause-misfit
returns-clause-misfit c = ap not (c.fits.ensures ∙ characters-allowed (seen c.args.self.now))
