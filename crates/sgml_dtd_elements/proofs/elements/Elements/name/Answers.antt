use Rattle.std.proofs.Common.{ap, sym, ◌∙◌, ◌≡◌, ◌<◌, ℕ, List, Some, arith, subst, length, map, option_map}
use Rattle.std.specs.List.{slice_get}
use Rattle.std.proofs.lemmas.Option.{slice_get_within, get_or_from_slice_get}
use Rattle.sgml_dtd_elements.specs.declared.row.Row.{Row}
use Rattle.sgml_dtd_elements.specs.Kept.{declared}
use Rattle.sgml_dtd_elements.specs.Types.{types}
use Rattle.sgml_dtd_elements.proofs.PlacedNames.{length-places}
use Rattle.sgml_dtd_elements.proofs.KeptRows.{row_at, type_of_row}
use Rattle.sgml_dtd_elements.proofs.elements.Elements.name.Goals as goal

pub index-place-requires : goal.index-place-requires
index-place-requires c =
    omega (arith, ap length c.self.invariant.places_are, length-places 0 (map declared c.self.inside.rows.items), ap (λ ds. length (types ds)) c.self.view_is)

pub index-requires : goal.index-requires
index-requires c =
    let within : c.args.number < length (types (map declared c.self.inside.rows.items)) = subst (λ ds. c.args.number < length (types ds)) (sym c.self.view_is) c.requires in
    let a = row_at c.self.inside.rows.items c.self.inside.places.items c.self.inside.index c.args.number c.index-place.result.now c.self.invariant within c.index-place.ensures in
    let below = slice_get_within c.self.inside.rows.items c.index-place.result.now.declaration a.row a.stands in
    omega (arith, below)

pub bounds-items-place : goal.bounds-items-place
bounds-items-place c =
    let within : c.args.number < length (types (map declared c.self.inside.rows.items)) = subst (λ ds. c.args.number < length (types ds)) (sym c.self.view_is) c.requires in
    let a = row_at c.self.inside.rows.items c.self.inside.places.items c.self.inside.index c.args.number c.index-place.result.now c.self.invariant within c.index-place.ensures in
    let same : c.index.result.now ≡ a.row = c.index.ensures ∙ get_or_from_slice_get c.self.inside.rows.items c.index-place.result.now.declaration a.row c.index.result.now a.stands in
    let names : c.items.result.now ≡ a.row.names = c.items.ensures ∙ ap (λ (r : Row). r.names) same in
    slice_get_within c.items.result.now c.index-place.result.now.at a.name (ap (λ (xs : List (List ℕ)). slice_get xs c.index-place.result.now.at) names ∙ a.named)

pub returns : goal.returns
returns c =
    let within : c.args.number < length (types (map declared c.self.inside.rows.items)) = subst (λ ds. c.args.number < length (types ds)) (sym c.self.view_is) c.requires in
    let a = row_at c.self.inside.rows.items c.self.inside.places.items c.self.inside.index c.args.number c.index-place.result.now c.self.invariant within c.index-place.ensures in
    let same : c.index.result.now ≡ a.row = c.index.ensures ∙ get_or_from_slice_get c.self.inside.rows.items c.index-place.result.now.declaration a.row c.index.result.now a.stands in
    let names : c.items.result.now ≡ a.row.names = c.items.ensures ∙ ap (λ (r : Row). r.names) same in
    let at : slice_get c.items.result.now c.index-place.result.now.at ≡ Some a.name = ap (λ (xs : List (List ℕ)). slice_get xs c.index-place.result.now.at) names ∙ a.named in
    let name : c.index-items-place.result ≡ a.name = c.index-items-place.is ∙ get_or_from_slice_get c.items.result.now c.index-place.result.now.at a.name c.index-items-place.result at in
    ap (λ ds. option_map (λ t. t.name) (slice_get (types ds) c.args.number)) (sym c.self.view_is)
    ∙ ap (option_map (λ t. t.name)) a.type_is ∙ ap Some (sym name)
