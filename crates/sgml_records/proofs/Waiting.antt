-- The test whether a record end waits is the search for it.
use Rattle.std.specs.Prelude.{◌≡◌, Bool, true, false, ◌||◌, IsTrue, List, [], ◌∷◌, ◌++◌}
use Rattle.std.proofs.Common.{refl, sym, ap, ◌∙◌, subst}
use Rattle.std.proofs.lemmas.Bool.{or_left, or_right}
use Rattle.sgml_records.specs.Items.{Item, RecordEnd, RecordStart, Data, Subelement, Markup}
use Rattle.sgml_records.specs.Facts.{is_live, releases, NoneReleases, OneWaits, one_waits}

-- an item that puts nothing out leaves what waits
behind : (earlier : List Item) (item : Item) → releases item earlier ≡ false → OneWaits earlier → OneWaits (item ∷ earlier)
behind earlier item q w =
    record {
      between = item ∷ w.between;
      earlier = w.earlier;
      parts = ap (λ (xs : List Item). item ∷ xs) w.parts;
      live = w.live;
      quiet = (subst (λ (xs : List Item). releases item xs ≡ false) w.parts q, w.quiet);
    }

end-waits : (earlier : List Item) (b : Bool) → is_live earlier ≡ b → (is_live earlier || one_waits earlier) ≡ true → (one_waits earlier ≡ true → OneWaits earlier) → OneWaits (RecordEnd ∷ earlier)
end-waits earlier true live e back = record { between = []; earlier = earlier; parts = refl; live = live; quiet = tt }
end-waits earlier false live e back =
    behind earlier RecordEnd live (back (let g : (false || one_waits earlier) ≡ true = ap (λ (b : Bool). b || one_waits earlier) (sym live) ∙ e in g))

pub waits-true : (earlier : List Item) → one_waits earlier ≡ true → OneWaits earlier
waits-true [] e = absurd (cc)
waits-true (Data ∷ earlier) e = absurd (cc)
waits-true (Subelement ∷ earlier) e = absurd (cc)
waits-true (RecordStart ∷ earlier) e = behind earlier RecordStart refl (waits-true earlier e)
waits-true (Markup ∷ earlier) e = behind earlier Markup refl (waits-true earlier e)
waits-true (RecordEnd ∷ earlier) e = end-waits earlier (is_live earlier) refl e (waits-true earlier)

waits-at : (between earlier : List Item) → IsTrue (is_live earlier) → NoneReleases between (RecordEnd ∷ earlier) → one_waits (between ++ (RecordEnd ∷ earlier)) ≡ true
waits-at [] earlier live quiet = or_left (is_live earlier) (one_waits earlier) live
waits-at (RecordEnd ∷ between) earlier live quiet = or_right (is_live (between ++ (RecordEnd ∷ earlier))) (one_waits (between ++ (RecordEnd ∷ earlier))) (waits-at between earlier live quiet.1)
waits-at (RecordStart ∷ between) earlier live quiet = waits-at between earlier live quiet.1
waits-at (Data ∷ between) earlier live quiet = absurd (let f : true ≡ false = quiet.0 in cc)
waits-at (Subelement ∷ between) earlier live quiet = absurd (let f : true ≡ false = quiet.0 in cc)
waits-at (Markup ∷ between) earlier live quiet = waits-at between earlier live quiet.1

pub true-waits : (earlier : List Item) → OneWaits earlier → one_waits earlier ≡ true
true-waits earlier w = ap one_waits w.parts ∙ waits-at w.between w.earlier w.live w.quiet
