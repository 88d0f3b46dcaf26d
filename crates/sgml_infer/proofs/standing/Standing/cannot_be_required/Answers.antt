use Rattle.std.proofs.Common.{ap, sym, ◌∙◌, is_some}
use Rattle.std.specs.Option.{option_copied}
use Rattle.sgml_theory_reading.specs.Reasons.{cannot_be_required}
use Rattle.sgml_infer.specs.Seen.{seen}
use Rattle.sgml_infer.proofs.Leaving.{cannot-then, cannot-else}
use Rattle.sgml_infer.proofs.standing.Standing.cannot_be_required.Goals as goal

pub returns-then-is_none : goal.returns-then-is_none
returns-then-is_none c =
    let s = c.args.self.now in
    cannot-then s c.requires c.in-Some.name.now c.is_none.result c.if-is_none.true (ap is_some (sym c.element.ensures) ∙ c.if-is_none.ensures)
    ∙ ap (λ o. cannot_be_required (seen s) (option_copied o)) (sym c.in-Some.is)

pub returns-else-is_none : goal.returns-else-is_none
returns-else-is_none c =
    let s = c.args.self.now in
    cannot-else s c.requires c.in-Some.name.now c.is_excluded.result (ap is_some (sym c.element.ensures) ∙ c.if-is_none.ensures) c.is_excluded.ensures
    ∙ ap (λ o. cannot_be_required (seen s) (option_copied o)) (sym c.in-Some.is)
