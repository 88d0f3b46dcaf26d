-- The facts by search are the facts by steps.
use Rattle.std.specs.Prelude.{◌≡◌, List, [], ◌∷◌}
use Rattle.std.proofs.Common.{refl, ap, ◌∙◌}
use Rattle.sgml_records.specs.Items.{Item, RecordEnd, RecordStart, Data, Subelement, Markup}
use Rattle.sgml_records.specs.Facts.{facts, noted, all_noted}

-- the facts after one item more
pub facts-noted : (earlier : List Item) (item : Item) → facts (item ∷ earlier) ≡ noted (facts earlier) item
unfolding facts noted
facts-noted earlier RecordEnd = refl
facts-noted earlier RecordStart = refl
facts-noted earlier Data = refl
facts-noted earlier Subelement = refl
facts-noted earlier Markup = refl

-- the items onto those before, the newest first
abbrev pub noted_onto : List Item → List Item → List Item
noted_onto [] earlier = earlier
noted_onto (item ∷ items) earlier = noted_onto items (item ∷ earlier)

-- the facts after several
pub facts-all_noted : (items earlier : List Item) → facts (noted_onto items earlier) ≡ all_noted (facts earlier) items
facts-all_noted [] earlier = refl
facts-all_noted (item ∷ items) earlier =
    facts-all_noted items (item ∷ earlier) ∙ ap (λ f. all_noted f items) (facts-noted earlier item)
