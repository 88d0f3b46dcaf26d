use Rattle.std.proofs.Common.{◌≡◌, ◌&&◌, not, true, false, sym, ◌∙◌}
use Rattle.std.specs.Option.{option_copied}
use Rattle.sgml_theory_reading.specs.Omission.{fits, is_excluded, allowed}
use Rattle.sgml_infer.specs.Seen.{seen}
use Rattle.sgml_infer.proofs.standing.Standing.allows_fitting.Goals as goal

pub returns-then-fits : goal.returns-then-fits
unfolding allowed
returns-then-fits c =
    let e : true ≡ fits (seen c.args.self.now) (option_copied c.args.token) = sym c.if-fits.true ∙ c.requires.fits in
    λ j. e j && not (c.is_excluded.ensures j)

pub returns-else-fits : goal.returns-else-fits
unfolding allowed
returns-else-fits c =
    let e : false ≡ fits (seen c.args.self.now) (option_copied c.args.token) = sym c.if-fits.false ∙ c.requires.fits in
    c.if-fits.false ∙ (λ j. e j && not (is_excluded (seen c.args.self.now) (option_copied c.args.token)))
