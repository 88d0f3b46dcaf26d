use Rattle.std.proofs.Common.{ap, ◌∙◌, ◌-◌, ℕ}
use Rattle.sgml_parse.proofs.Holding.{lowest-some, lowest-none}
use Rattle.sgml_parse.proofs.held.lowest.Goals as goal

pub returns-in-Some : goal.returns-in-Some
returns-in-Some c = lowest-some c.args.stack.now.places _ c.in-Some.place (c.saturating_sub.ensures ∙ ap (λ (n : ℕ). n - 1) c.height.ensures) c.in-Some.ensures

pub returns-in-None : goal.returns-in-None
returns-in-None c = lowest-none c.args.stack.now.places _ (c.saturating_sub.ensures ∙ ap (λ (n : ℕ). n - 1) c.height.ensures) c.in-None.ensures
