use Rattle.std.proofs.Common.{ap, sym, ◌∙◌}
use Rattle.std.specs.Option.{option_copied}
use Rattle.sgml_names.specs.syntax.declared.syntax.Syntax.{Syntax}
use Rattle.sgml_theory_reading.specs.Reasons.{start_is_omissible}
use Rattle.sgml_infer.specs.Seen.{seen}
use Rattle.sgml_infer.proofs.Leaving.{omissible-then, omissible-else}
use Rattle.sgml_infer.proofs.standing.Standing.start_is_omissible.Goals as goal

pub returns-then-syntax : goal.returns-then-syntax
returns-then-syntax c =
    omissible-then c.args.self.now c.requires c.in-Some.name.now c.start_omissible.result (ap (λ (x : Syntax). x.omittag) (sym c.syntax.ensures) ∙ c.if-syntax.true) c.start_omissible.ensures
    ∙ ap (λ o. start_is_omissible (seen c.args.self.now) (option_copied o)) (sym c.in-Some.is)

pub returns-else-syntax : goal.returns-else-syntax
returns-else-syntax c =
    omissible-else c.args.self.now c.requires c.in-Some.name.now c.syntax.result.now.omittag (ap (λ (x : Syntax). x.omittag) (sym c.syntax.ensures) ∙ c.if-syntax.false) c.if-syntax.false
    ∙ ap (λ o. start_is_omissible (seen c.args.self.now) (option_copied o)) (sym c.in-Some.is)
