use Rattle.std.proofs.Common.{◌≡◌, ◌∙◌, ap, sym, ℕ, arith, get_or}
use Rattle.sgml_names.specs.Index.{found}
use Rattle.sgml_dtd_maps.specs.Tables.{map_by, map_used, first_use}
use Rattle.sgml_dtd_maps.proofs.Targets.{use_found, no_use}
use Rattle.sgml_dtd_maps.proofs.table.MapTables.map_of.Goals as goal

pub index-requires : goal.index-requires
index-requires c =
    let at = use_found 0 c.in-Some.n c.self.inside.uses.items c.args.element.now
    (sym (c.self.invariant.uses_are c.args.element.now) ∙ ap (found c.self.inside.of_targets) (sym c.items.ensures.list) ∙ sym c.in-Some.ensures) in
    omega (arith, at.number, at.within)

pub returns-in-Some : goal.returns-in-Some
returns-in-Some c =
    let at = use_found 0 c.in-Some.n c.self.inside.uses.items c.args.element.now
    (sym (c.self.invariant.uses_are c.args.element.now) ∙ ap (found c.self.inside.of_targets) (sym c.items.ensures.list) ∙ sym c.in-Some.ensures) in
    let place : c.in-Some.n ≡ at.place = omega (arith, at.number) in
    c.map_used.ensures
    ∙ ap (λ u. map_used c.args.self.now.maps u.map) c.index.ensures
    ∙ ap (λ (i : ℕ). map_used c.args.self.now.maps (get_or c.self.inside.uses.items i c.index.result.now).map) place
    ∙ ap (map_by c.args.self.now.maps) (sym (at.stands c.index.result.now))
    ∙ ap (λ t. map_by c.args.self.now.maps (first_use t.uses c.args.element.now)) c.self.view_is

pub returns-in-None : goal.returns-in-None
returns-in-None c =
    sym (ap (λ t. map_by c.args.self.now.maps (first_use t.uses c.args.element.now)) (sym c.self.view_is)
    ∙ ap (map_by c.args.self.now.maps) (no_use 0 c.self.inside.uses.items c.args.element.now
    (sym (c.self.invariant.uses_are c.args.element.now) ∙ ap (found c.self.inside.of_targets) (sym c.items.ensures.list) ∙ sym c.in-None.ensures)))
