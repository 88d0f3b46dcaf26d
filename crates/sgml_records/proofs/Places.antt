-- Where record ends are put out, by the places of the items.
use Rattle.std.specs.Prelude.{◌≡◌, ℕ, zero, suc, ◌+◌, ◌<◌, ◌≤◌, ◌⊎◌, ◌↔◌, Bool, true, false, ◌||◌, IsTrue, List, [], ◌∷◌, ◌++◌, length, take, reverse}
use Rattle.std.proofs.Common.{refl, sym, ap, ◌∙◌, arith, subst, inl, inr, get_or}
use Rattle.std.proofs.lemmas.Bool.{or_left, or_right}
use Rattle.std.proofs.lemmas.Option.{slice_get_within, slice_get-get_or, get_or_from_slice_get}
use Rattle.std.proofs.lemmas.List.{take_more, reverse-append, length-reverse, length-take-le}
use Rattle.sgml_records.specs.Items.{Item, RecordEnd, RecordStart, Data, Subelement, Markup}
use Rattle.sgml_records.specs.RecordEnds.{StandsAt, IsIgnoredThere, CountsAt, IsPutOutAt}
use Rattle.sgml_records.specs.Facts.{before, is_live, releases, one_waits}
use Rattle.sgml_records.specs.Puts.{put_at, put_of_end, kept_if}
use Rattle.sgml_records.specs.declared.record_state.Put.TheVariants.{Nothing, Kept}
use Rattle.sgml_records.proofs.Words.{AreFirst, one-stands, never-ignored, is-live, is-ignored, counts-of, of-counts, last-or-before, longer, shorter, no-place, not-between}

-- one item more
before-more : (items : List Item) (i : ℕ) (item : Item) → StandsAt items i item → before items (i + 1) ≡ item ∷ before items i
before-more items i item stands =
    let within : i < length items = slice_get_within items i item stands in
    let last = ap (λ (x : Item). take i items ++ (x ∷ [])) (get_or_from_slice_get items i item item stands) in
    ap reverse (take_more items i item within ∙ last) ∙ reverse-append (take i items) (item ∷ [])

-- so many are before a place
pub length-before : (items : List Item) (i : ℕ) → i ≤ length items → length (before items i) ≡ i
length-before items i within = length-reverse (take i items) ∙ length-take-le i items within

pub before-first : (items : List Item) (i : ℕ) → i ≤ length items → AreFirst items (before items i)
before-first items zero within = tt
before-first items (suc i) within =
    let below : i < length items = omega arith in
    let item = get_or_of items i below in
    let next : before items (i + 1) ≡ item.0 ∷ before items i = before-more items i item.0 item.1 in
    let step : before items (suc i) ≡ item.0 ∷ before items i = (let e : suc i ≡ i + 1 = omega arith in ap (before items) e ∙ next) in
    subst (AreFirst items) (sym step)
    (subst (λ n. StandsAt items n item.0) (sym (length-before items i (omega arith))) item.1, before-first items i (omega arith))
  where
    get_or_of : (items : List Item) (i : ℕ) → i < length items → (item : Item) × StandsAt items i item
    get_or_of items i below = (get_or items i Markup, slice_get-get_or items i Markup below)

-- the record end at `i` waits before the place `n`
pub record WaitsAt (items : List Item) (n i : ℕ) : Type 0 where
  pub is_end : StandsAt items i RecordEnd
  pub not_ignored : ¬ IsIgnoredThere items i
  pub is_earlier : i < n
  pub quiet : (k : ℕ) → i < k → k < n → ¬ CountsAt items k

behind : (items : List Item) (item : Item) (earlier : List Item) → AreFirst items (item ∷ earlier) → releases item earlier ≡ false → (i : ℕ) × WaitsAt items (length earlier) i → (i : ℕ) × WaitsAt items (length (item ∷ earlier)) i
behind items item earlier first no-release w = (
  w.0,
  record {
    is_end = w.1.is_end;
    not_ignored = w.1.not_ignored;
    is_earlier = longer item earlier w.0 w.1.is_earlier;
    quiet = λ k after below. elim (last-or-before item earlier k below) [
      | inl l ↦ w.1.quiet k after l
      | inr same ↦ λ counts.
          let e : releases item earlier ≡ true = of-counts items item earlier first.1 first.0 (subst (CountsAt items) same counts) in
          absurd (let no-way : true ≡ false = sym e ∙ no-release in cc)
    ];
  },
)

end-waits : (items earlier : List Item) (b : Bool) → AreFirst items (RecordEnd ∷ earlier) → is_live earlier ≡ b → (is_live earlier || one_waits earlier) ≡ true → (one_waits earlier ≡ true → (i : ℕ) × WaitsAt items (length earlier) i) → (i : ℕ) × WaitsAt items (length (RecordEnd ∷ earlier)) i
end-waits items earlier true first live e back = (
  length earlier,
  record {
    is_end = first.0;
    not_ignored = never-ignored items earlier first.1 live;
    is_earlier = shorter RecordEnd earlier;
    quiet = λ k after below. absurd (not-between RecordEnd earlier k after below);
  },
)
end-waits items earlier false first live e back =
    behind items RecordEnd earlier first live
    (back (let g : (false || one_waits earlier) ≡ true = ap (λ (b : Bool). b || one_waits earlier) (sym live) ∙ e in g))

pub waits-at : (items earlier : List Item) → AreFirst items earlier → one_waits earlier ≡ true → (i : ℕ) × WaitsAt items (length earlier) i
waits-at items [] first e = absurd (cc)
waits-at items (Data ∷ earlier) first e = absurd (cc)
waits-at items (Subelement ∷ earlier) first e = absurd (cc)
waits-at items (RecordStart ∷ earlier) first e = behind items RecordStart earlier first refl (waits-at items earlier first.1 e)
waits-at items (Markup ∷ earlier) first e = behind items Markup earlier first refl (waits-at items earlier first.1 e)
waits-at items (RecordEnd ∷ earlier) first e = end-waits items earlier (is_live earlier) first refl e (waits-at items earlier first.1)

-- what waits before the last item, where the last item isn't it
shorter-wait : (items : List Item) (item : Item) (earlier : List Item) (i : ℕ) → WaitsAt items (length (item ∷ earlier)) i → i < length earlier → WaitsAt items (length earlier) i
shorter-wait items item earlier i w below =
    record { is_end = w.is_end; not_ignored = w.not_ignored; is_earlier = below; quiet = λ k after l. w.quiet k after (longer item earlier k l) }

-- the last item of these is what waits, or it puts nothing out
at-last : (items : List Item) (item : Item) (earlier : List Item) (i : ℕ) → AreFirst items (item ∷ earlier) → WaitsAt items (length (item ∷ earlier)) i →
    ((releases item earlier ≡ true → ⊥) × WaitsAt items (length earlier) i) ⊎ ((item ≡ RecordEnd) × (is_live earlier ≡ true))
at-last items item earlier i first w =
    elim (last-or-before item earlier i w.is_earlier) [
      | inl below ↦ inl (
        (λ e. w.quiet (length earlier) below (shorter item earlier) (counts-of items item earlier first.1 first.0 e)),
        shorter-wait items item earlier i w below,
      )
      | inr same ↦ inr (
        one-stands items (length earlier) item RecordEnd first.0 (subst (λ n. StandsAt items n RecordEnd) same w.is_end),
        is-live items earlier first.1 (subst (λ n. ¬ IsIgnoredThere items n) same w.not_ignored),
      )
    ]

pub at-waits : (items earlier : List Item) → AreFirst items earlier → (i : ℕ) → WaitsAt items (length earlier) i → one_waits earlier ≡ true
at-waits items [] first i w = absurd (no-place i w.is_earlier)
at-waits items (Data ∷ earlier) first i w =
    elim (at-last items Data earlier i first w) [ inl l ↦ absurd (l.0 refl) | inr r ↦ absurd (let e : Data ≡ RecordEnd = r.0 in cc) ]
at-waits items (Subelement ∷ earlier) first i w =
    elim (at-last items Subelement earlier i first w) [ inl l ↦ absurd (l.0 refl) | inr r ↦ absurd (let e : Subelement ≡ RecordEnd = r.0 in cc) ]
at-waits items (RecordStart ∷ earlier) first i w =
    elim (at-last items RecordStart earlier i first w) [ inl l ↦ at-waits items earlier first.1 i l.1 | inr r ↦ absurd (let e : RecordStart ≡ RecordEnd = r.0 in cc) ]
at-waits items (Markup ∷ earlier) first i w =
    elim (at-last items Markup earlier i first w) [ inl l ↦ at-waits items earlier first.1 i l.1 | inr r ↦ absurd (let e : Markup ≡ RecordEnd = r.0 in cc) ]
at-waits items (RecordEnd ∷ earlier) first i w =
    elim (at-last items RecordEnd earlier i first w) [
      | inl l ↦ or_right (is_live earlier) (one_waits earlier) (at-waits items earlier first.1 i l.1)
      | inr r ↦ or_left (is_live earlier) (one_waits earlier) r.1
    ]

-- what is put out at an item
kept-end : (live waits : Bool) → put_of_end live waits ≡ Kept → (live ≡ true) × (waits ≡ true)
kept-end true true e = (refl, refl)
kept-end true false e = absurd (cc)
kept-end false waits e = absurd (cc)

kept-waits : (waits : Bool) → kept_if waits ≡ Kept → waits ≡ true
kept-waits true e = refl
kept-waits false e = absurd (cc)

kept-parts : (item : Item) (earlier : List Item) → put_at earlier item ≡ Kept → (releases item earlier ≡ true) × (one_waits earlier ≡ true)
kept-parts RecordEnd earlier e = kept-end (is_live earlier) (one_waits earlier) e
kept-parts RecordStart earlier e = absurd (cc)
kept-parts Data earlier e = (refl, kept-waits (one_waits earlier) e)
kept-parts Subelement earlier e = (refl, kept-waits (one_waits earlier) e)
kept-parts Markup earlier e = absurd (cc)

parts-kept : (item : Item) (earlier : List Item) → releases item earlier ≡ true → one_waits earlier ≡ true → put_at earlier item ≡ Kept
parts-kept RecordEnd earlier live waits = λ i. put_of_end (live i) (waits i)
parts-kept RecordStart earlier live waits = absurd (cc)
parts-kept Data earlier live waits = ap kept_if waits
parts-kept Subelement earlier live waits = ap kept_if waits
parts-kept Markup earlier live waits = absurd (cc)

kept-at : (items : List Item) (item : Item) (earlier : List Item) → AreFirst items earlier → StandsAt items (length earlier) item → put_at earlier item ≡ Kept → (i : ℕ) × IsPutOutAt items i (length earlier)
kept-at items item earlier first stands e =
    let parts = kept-parts item earlier e in
    let w = waits-at items earlier first parts.1 in (
      w.0,
      record {
        is_end = w.1.is_end;
        not_ignored = w.1.not_ignored;
        is_later = w.1.is_earlier;
        counts = counts-of items item earlier first stands parts.0;
        is_first = w.1.quiet;
      },
    )

at-kept : (items : List Item) (item : Item) (earlier : List Item) → AreFirst items earlier → StandsAt items (length earlier) item → (i : ℕ) × IsPutOutAt items i (length earlier) → put_at earlier item ≡ Kept
at-kept items item earlier first stands p =
    parts-kept item earlier (of-counts items item earlier first stands p.1.counts)
    (at-waits items earlier first p.0 (record { is_end = p.1.is_end; not_ignored = p.1.not_ignored; is_earlier = p.1.is_later; quiet = p.1.is_first }))

-- an item stands within the list, and the items before it are the first
pub stands-within : (items : List Item) (i : ℕ) (item : Item) → StandsAt items i item → i ≤ length items
stands-within items i item stands = let below = slice_get_within items i item stands in omega arith

pub kept-is : (items : List Item) (place : ℕ) (item : Item) → StandsAt items place item → (put_at (before items place) item ≡ Kept) ↔ ((i : ℕ) × IsPutOutAt items i place)
kept-is items place item stands =
    let within = stands-within items place item stands in
    let first = before-first items place within in
    let n = length-before items place within in
    let there : StandsAt items (length (before items place)) item = subst (λ k. StandsAt items k item) (sym n) stands in (
      (λ e. subst (λ k. (i : ℕ) × IsPutOutAt items i k) n (kept-at items item (before items place) first there e)),
      (λ p. at-kept items item (before items place) first there (subst (λ k. (i : ℕ) × IsPutOutAt items i k) (sym n) p)),
    )

nothing-end : (live waits : Bool) → put_of_end live waits ≡ Nothing → live ≡ false
nothing-end true true e = absurd (cc)
nothing-end true false e = absurd (cc)
nothing-end false waits e = refl

-- the standard's words at a place say what the search before it finds
pub at-place : (P : List Item → Type 0) (W : ℕ → Type 0) (items : List Item) → ((earlier : List Item) → AreFirst items earlier → P earlier ↔ W (length earlier)) → (i : ℕ) → i ≤ length items → P (before items i) ↔ W i
at-place P W items each i within =
    let ways = each (before items i) (before-first items i within) in
    let n = length-before items i within in
    ((λ p. subst W n (ways.0 p)), (λ w. ways.1 (subst W (sym n) w)))

pub live-is : (items earlier : List Item) → AreFirst items earlier → IsTrue (is_live earlier) ↔ (¬ IsIgnoredThere items (length earlier))
live-is items earlier first = (never-ignored items earlier first, is-live items earlier first)

ignored-true : (items earlier : List Item) → AreFirst items earlier → (b : Bool) → is_live earlier ≡ b → IsIgnoredThere items (length earlier) → is_live earlier ≡ false
ignored-true items earlier first true e w = absurd (never-ignored items earlier first e w)
ignored-true items earlier first false e w = e

pub nothing-is : (items earlier : List Item) → AreFirst items earlier → (put_at earlier RecordEnd ≡ Nothing) ↔ IsIgnoredThere items (length earlier)
nothing-is items earlier first = (
  (λ e. is-ignored items earlier first (nothing-end (is_live earlier) (one_waits earlier) e)),
  (λ w. ap (λ (b : Bool). put_of_end b (one_waits earlier)) (ignored-true items earlier first (is_live earlier) refl w)),
)
