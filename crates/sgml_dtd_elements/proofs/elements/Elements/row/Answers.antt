use Rattle.std.proofs.Common.{ap, sym, ◌∙◌, ◌≡◌, ◌<◌, ℕ, Some, arith, subst, length, map, option_map}
use Rattle.std.specs.List.{slice_get}
use Rattle.std.proofs.lemmas.Option.{slice_get_within, get_or_from_slice_get}
use Rattle.sgml_dtd_elements.specs.declared.row.Row.{Row}
use Rattle.sgml_dtd_elements.specs.Kept.{declared, IsRead}
use Rattle.sgml_dtd_elements.specs.Types.{types}
use Rattle.sgml_dtd_elements.proofs.PlacedNames.{length-places}
use Rattle.sgml_dtd_elements.proofs.KeptRows.{row_at, type_of_row, read_at}
use Rattle.sgml_dtd_elements.proofs.elements.Elements.row.Goals as goal

pub index-place-requires : goal.index-place-requires
index-place-requires c =
    omega (arith, ap length c.self.invariant.places_are, length-places 0 (map declared c.self.inside.rows.items), ap (λ ds. length (types ds)) c.self.view_is)

pub index-requires : goal.index-requires
index-requires c =
    let within : c.args.number < length (types (map declared c.self.inside.rows.items)) = subst (λ ds. c.args.number < length (types ds)) (sym c.self.view_is) c.requires in
    let a = row_at c.self.inside.rows.items c.self.inside.places.items c.self.inside.index c.args.number c.index-place.result.now c.self.invariant within c.index-place.ensures in
    let below = slice_get_within c.self.inside.rows.items c.index-place.result.now.declaration a.row a.stands in
    omega (arith, below)

pub returns-clause-omits : goal.returns-clause-omits
returns-clause-omits c =
    let within : c.args.number < length (types (map declared c.self.inside.rows.items)) = subst (λ ds. c.args.number < length (types ds)) (sym c.self.view_is) c.requires in
    let a = row_at c.self.inside.rows.items c.self.inside.places.items c.self.inside.index c.args.number c.index-place.result.now c.self.invariant within c.index-place.ensures in
    ap (λ ds. option_map (λ t. t.omits) (slice_get (types ds) c.args.number)) (sym c.self.view_is)
    ∙ ap (option_map (λ t. t.omits)) (type_of_row c.self.inside.rows.items c.args.number c.index-place.result.now c.index.result.now a c.index.ensures)

pub returns-clause-body : goal.returns-clause-body
returns-clause-body c =
    let within : c.args.number < length (types (map declared c.self.inside.rows.items)) = subst (λ ds. c.args.number < length (types ds)) (sym c.self.view_is) c.requires in
    let a = row_at c.self.inside.rows.items c.self.inside.places.items c.self.inside.index c.args.number c.index-place.result.now c.self.invariant within c.index-place.ensures in
    ap (λ ds. option_map (λ t. t.body) (slice_get (types ds) c.args.number)) (sym c.self.view_is)
    ∙ ap (option_map (λ t. t.body)) (type_of_row c.self.inside.rows.items c.args.number c.index-place.result.now c.index.result.now a c.index.ensures)

pub returns-clause-read : goal.returns-clause-read
returns-clause-read c =
    let within : c.args.number < length (types (map declared c.self.inside.rows.items)) = subst (λ ds. c.args.number < length (types ds)) (sym c.self.view_is) c.requires in
    let a = row_at c.self.inside.rows.items c.self.inside.places.items c.self.inside.index c.args.number c.index-place.result.now c.self.invariant within c.index-place.ensures in
    let same : c.index.result.now ≡ a.row = c.index.ensures ∙ get_or_from_slice_get c.self.inside.rows.items c.index-place.result.now.declaration a.row c.index.result.now a.stands in
    subst (λ (r : Row). IsRead r.content) (sym same) (read_at c.self.inside.rows.items c.index-place.result.now.declaration a.row c.self.invariant.read a.stands)
