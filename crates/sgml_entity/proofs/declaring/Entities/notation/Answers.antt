use Rattle.std.proofs.Common.{◌∙◌, ap, sym, ◌≡◌, Some, ℕ, arith, get_or}
use Rattle.sgml_entity.specs.Entities.{notation_of, external_of}
use Rattle.sgml_entity.proofs.Numbers.{notation_found, no_notation}
use Rattle.sgml_entity.proofs.declaring.Entities.notation.Goals as goal

pub index-requires : goal.index-requires
index-requires c =
    let at = notation_found 0 c.in-Some.number c.self.inside.notations.items c.args.name.now (ap (λ t. notation_of t.notations c.args.name.now) c.self.view_is ∙ sym c.in-Some.ensures) in
    omega (arith, at.number, at.within)

pub returns-in-Some : goal.returns-in-Some
returns-in-Some c =
    let at = notation_found 0 c.in-Some.number c.self.inside.notations.items c.args.name.now (ap (λ t. notation_of t.notations c.args.name.now) c.self.view_is ∙ sym c.in-Some.ensures) in
    let place : c.in-Some.number ≡ at.place = omega (arith, at.number) in
    ap (λ o. Some o.external) c.index.ensures
    ∙ ap (λ (i : ℕ). Some (get_or c.self.inside.notations.items i c.index.result.now).external) place
    ∙ at.stands c.index.result.now
    ∙ ap (λ t. external_of t.notations c.args.name.now) c.self.view_is

pub returns-in-None : goal.returns-in-None
returns-in-None c =
    sym (no_notation 0 c.args.self.now.notations c.args.name.now (sym c.in-None.ensures))
