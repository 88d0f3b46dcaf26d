-- The search and the words of the standard say the same.
use Rattle.std.specs.Prelude.{◌≡◌, ℕ, ◌+◌, ◌<◌, ◌⊎◌, ◌↔◌, Some, Bool, true, false, not, ◌&&◌, ◌||◌, IsTrue, List, [], ◌∷◌, length}
use Rattle.std.proofs.Common.{refl, sym, ap, ◌∙◌, arith, subst, inl, inr}
use Rattle.sgml_records.specs.Items.{Item, RecordEnd, RecordStart, Data, Subelement, Markup, is_record, is_content}
use Rattle.sgml_records.specs.RecordEnds.{StandsAt, IsIgnoredAsFirst, FollowsRecord, ContentIntervenes, IsIgnoredAfterMarkup, IsIgnoredThere, CountsAt}
use Rattle.sgml_records.specs.Facts.{only_markup, only_markup_since, ends_in_record, has_content, is_live, releases}

-- `earlier` are the first items, the newest first
abbrev pub AreFirst : List Item → List Item → Type 0
AreFirst items [] = Unit {0}
AreFirst items (item ∷ earlier) = StandsAt items (length earlier) item × AreFirst items earlier

-- one item stands at a place
pub one-stands : (items : List Item) (k : ℕ) (x y : Item) → StandsAt items k x → StandsAt items k y → x ≡ y
one-stands items k x y a b = let e : Some x ≡ Some y = sym a ∙ b in cc

-- a place among these is an earlier one or the last
pub last-or-before : (item : Item) (earlier : List Item) (k : ℕ) → k < length (item ∷ earlier) → (k < length earlier) ⊎ (k ≡ length earlier)
last-or-before item earlier k below = grind arith

pub shorter : (item : Item) (earlier : List Item) → length earlier < length (item ∷ earlier)
shorter item earlier = grind arith

pub longer : (item : Item) (earlier : List Item) (k : ℕ) → k < length earlier → k < length (item ∷ earlier)
longer item earlier k below = grind arith

pub not-between : (item : Item) (earlier : List Item) (k : ℕ) → length earlier < k → k < length (item ∷ earlier) → ⊥
not-between item earlier k a b = grind arith

pub no-place : (k : ℕ) → k < length {A = Item} [] → ⊥
no-place k below = grind arith

-- what stands last of these
stands-last : (items : List Item) (item other : Item) (earlier : List Item) (k : ℕ) → AreFirst items (item ∷ earlier) → k ≡ length earlier → StandsAt items k other → other ≡ item
stands-last items item other earlier k first same stands =
    one-stands items k other item stands (subst (λ n. StandsAt items n item) (sym same) first.0)

first-true : (items earlier : List Item) → AreFirst items earlier → only_markup earlier ≡ true → IsIgnoredAsFirst items (length earlier)
first-true items [] first e = λ k item below stands. absurd (no-place k below)
first-true items (Markup ∷ earlier) first e =
    λ k item below stands. elim (last-or-before Markup earlier k below) [
      | inl l ↦ first-true items earlier first.1 e k item l stands
      | inr same ↦ stands-last items Markup item earlier k first same stands
    ]
first-true items (RecordEnd ∷ earlier) first e = absurd (cc)
first-true items (RecordStart ∷ earlier) first e = absurd (cc)
first-true items (Data ∷ earlier) first e = absurd (cc)
first-true items (Subelement ∷ earlier) first e = absurd (cc)

-- only markup has this item as its first
last-is-markup : (items : List Item) (item : Item) (earlier : List Item) → AreFirst items (item ∷ earlier) → IsIgnoredAsFirst items (length (item ∷ earlier)) → item ≡ Markup
last-is-markup items item earlier first w = w (length earlier) item (shorter item earlier) first.0

true-first : (items earlier : List Item) → AreFirst items earlier → IsIgnoredAsFirst items (length earlier) → only_markup earlier ≡ true
true-first items [] first w = refl
true-first items (Markup ∷ earlier) first w = true-first items earlier first.1 (λ k item below stands. w k item (longer Markup earlier k below) stands)
true-first items (RecordEnd ∷ earlier) first w = absurd (let e : RecordEnd ≡ Markup = last-is-markup items RecordEnd earlier first w in cc)
true-first items (RecordStart ∷ earlier) first w = absurd (let e : RecordStart ≡ Markup = last-is-markup items RecordStart earlier first w in cc)
true-first items (Data ∷ earlier) first w = absurd (let e : Data ≡ Markup = last-is-markup items Data earlier first w in cc)
true-first items (Subelement ∷ earlier) first w = absurd (let e : Subelement ≡ Markup = last-is-markup items Subelement earlier first w in cc)

follows : (items : List Item) (item : Item) (earlier : List Item) → AreFirst items (item ∷ earlier) → is_record item ≡ true → FollowsRecord items (length (item ∷ earlier))
follows items item earlier first is =
    record { place = length earlier; item = item; directly = (let e : length (item ∷ earlier) ≡ length earlier + 1 = grind arith in e); stands = first.0; is_one = is }

follows-true : (items earlier : List Item) → AreFirst items earlier → ends_in_record earlier ≡ true → FollowsRecord items (length earlier)
follows-true items [] first e = absurd (cc)
follows-true items (RecordEnd ∷ earlier) first e = follows items RecordEnd earlier first refl
follows-true items (RecordStart ∷ earlier) first e = follows items RecordStart earlier first refl
follows-true items (Data ∷ earlier) first e = absurd (cc)
follows-true items (Subelement ∷ earlier) first e = absurd (cc)
follows-true items (Markup ∷ earlier) first e = absurd (cc)

record-ends : (item : Item) (earlier : List Item) → is_record item ≡ true → ends_in_record (item ∷ earlier) ≡ true
record-ends RecordEnd earlier is = refl
record-ends RecordStart earlier is = refl
record-ends Data earlier is = absurd (cc)
record-ends Subelement earlier is = absurd (cc)
record-ends Markup earlier is = absurd (cc)

true-follows : (items earlier : List Item) → AreFirst items earlier → FollowsRecord items (length earlier) → ends_in_record earlier ≡ true
true-follows items [] first w = absurd (let e : length {A = Item} [] ≡ w.place + 1 = w.directly in grind arith)
true-follows items (item ∷ earlier) first w =
    let d : length (item ∷ earlier) ≡ w.place + 1 = w.directly in
    let same : w.item ≡ item = stands-last items item w.item earlier w.place first (grind arith) w.stands in
    record-ends item earlier (ap is_record (sym same) ∙ w.is_one)

-- content that was last before comes before more markup too
intervenes-longer : (items earlier : List Item) → AreFirst items (Markup ∷ earlier) → ContentIntervenes items (length earlier) → ContentIntervenes items (length (Markup ∷ earlier))
intervenes-longer items earlier first w =
    record {
      place = w.place;
      item = w.item;
      is_before = longer Markup earlier w.place w.is_before;
      stands = w.stands;
      is_one = w.is_one;
      no_record_since = λ k other after below stands. elim (last-or-before Markup earlier k below) [
        | inl l ↦ w.no_record_since k other after l stands
        | inr same ↦ ap is_record (stands-last items Markup other earlier k first same stands)
      ];
    }

intervenes-last : (items : List Item) (item : Item) (earlier : List Item) → AreFirst items (item ∷ earlier) → is_content item ≡ true → ContentIntervenes items (length (item ∷ earlier))
intervenes-last items item earlier first is =
    record {
      place = length earlier;
      item = item;
      is_before = shorter item earlier;
      stands = first.0;
      is_one = is;
      no_record_since = λ k other after below stands. absurd (not-between item earlier k after below);
    }

intervenes-true : (items earlier : List Item) → AreFirst items earlier → has_content earlier ≡ true → ContentIntervenes items (length earlier)
intervenes-true items [] first e = absurd (cc)
intervenes-true items (RecordEnd ∷ earlier) first e = absurd (cc)
intervenes-true items (RecordStart ∷ earlier) first e = absurd (cc)
intervenes-true items (Data ∷ earlier) first e = intervenes-last items Data earlier first refl
intervenes-true items (Subelement ∷ earlier) first e = intervenes-last items Subelement earlier first refl
intervenes-true items (Markup ∷ earlier) first e = intervenes-longer items earlier first (intervenes-true items earlier first.1 e)

content-has : (item : Item) (earlier : List Item) → is_content item ≡ true → has_content (item ∷ earlier) ≡ true
content-has RecordEnd earlier is = absurd (cc)
content-has RecordStart earlier is = absurd (cc)
content-has Data earlier is = refl
content-has Subelement earlier is = refl
content-has Markup earlier is = absurd (cc)

-- content has come, and the items from there on are no record
stays-content : (item : Item) (earlier : List Item) → is_record item ≡ false → has_content earlier ≡ true → has_content (item ∷ earlier) ≡ true
stays-content RecordEnd earlier no-record has = absurd (cc)
stays-content RecordStart earlier no-record has = absurd (cc)
stays-content Data earlier no-record has = refl
stays-content Subelement earlier no-record has = refl
stays-content Markup earlier no-record has = has

intervenes-shorter : (items : List Item) (item : Item) (earlier : List Item) (w : ContentIntervenes items (length (item ∷ earlier))) → w.place < length earlier → ContentIntervenes items (length earlier)
intervenes-shorter items item earlier w below =
    record {
      place = w.place;
      item = w.item;
      is_before = below;
      stands = w.stands;
      is_one = w.is_one;
      no_record_since = λ k other after l stands. w.no_record_since k other after (longer item earlier k l) stands;
    }

true-intervenes : (items earlier : List Item) → AreFirst items earlier → ContentIntervenes items (length earlier) → has_content earlier ≡ true
true-intervenes items [] first w = absurd (no-place w.place w.is_before)
true-intervenes items (item ∷ earlier) first w =
    elim (last-or-before item earlier w.place w.is_before) [
      | inl below ↦
          stays-content item earlier (w.no_record_since (length earlier) item below (shorter item earlier) first.0)
          (true-intervenes items earlier first.1 (intervenes-shorter items item earlier w below))
      | inr same ↦ content-has item earlier (ap is_content (sym (stands-last items item w.item earlier w.place first same w.stands)) ∙ w.is_one)
    ]

-- a record end there is ignored for what stands before it, by the three facts
ignored-false : {A F C : Type 0} (a f c : Bool) → (A → a ≡ true) → (f ≡ true → F) → (c ≡ true → C) → (not a && (f || c)) ≡ true → A ⊎ ((¬ F) × (¬ C)) → ⊥
ignored-false true f c at-first follows content live (inl w) = absurd (cc)
ignored-false false f c at-first follows content live (inl w) = let e : false ≡ true = at-first w in absurd (cc)
ignored-false true f c at-first follows content live (inr w) = absurd (cc)
ignored-false false true c at-first follows content live (inr w) = w.0 (follows refl)
ignored-false false false true at-first follows content live (inr w) = w.1 (content refl)
ignored-false false false false at-first follows content live (inr w) = absurd (cc)

live-true : {A F C : Type 0} (a f c : Bool) → (a ≡ true → A) → (F → f ≡ true) → (C → c ≡ true) → (A ⊎ ((¬ F) × (¬ C)) → ⊥) → (not a && (f || c)) ≡ true
live-true true f c at-first follows content never = absurd (never (inl (at-first refl)))
live-true false true c at-first follows content never = refl
live-true false false true at-first follows content never = refl
live-true false false false at-first follows content never =
    absurd (never (inr ((λ w. let e : false ≡ true = follows w in absurd (cc)), (λ w. let e : false ≡ true = content w in absurd (cc)))))

as-parts : (items : List Item) (i : ℕ) → IsIgnoredThere items i → IsIgnoredAsFirst items i ⊎ ((¬ FollowsRecord items i) × (¬ ContentIntervenes items i))
as-parts items i (inl w) = inl w
as-parts items i (inr w) = inr (w.not_directly, w.nothing_since)

of-parts : (items : List Item) (i : ℕ) → IsIgnoredAsFirst items i ⊎ ((¬ FollowsRecord items i) × (¬ ContentIntervenes items i)) → IsIgnoredThere items i
of-parts items i (inl w) = inl w
of-parts items i (inr w) = inr (record { not_directly = w.0; nothing_since = w.1 })

pub never-ignored : (items earlier : List Item) → AreFirst items earlier → is_live earlier ≡ true → ¬ IsIgnoredThere items (length earlier)
never-ignored items earlier first live = λ w.
    ignored-false (only_markup earlier) (ends_in_record earlier) (has_content earlier)
    (true-first items earlier first) (follows-true items earlier first) (intervenes-true items earlier first) live (as-parts items (length earlier) w)

pub is-live : (items earlier : List Item) → AreFirst items earlier → ¬ IsIgnoredThere items (length earlier) → is_live earlier ≡ true
is-live items earlier first never =
    live-true (only_markup earlier) (ends_in_record earlier) (has_content earlier)
    (first-true items earlier first) (true-follows items earlier first) (true-intervenes items earlier first) (λ w. never (of-parts items (length earlier) w))

-- where it isn't live, it is ignored there
ignored-of : {A F C : Type 0} (a f c : Bool) → (a ≡ true → A) → (F → f ≡ true) → (C → c ≡ true) → (not a && (f || c)) ≡ false → A ⊎ ((¬ F) × (¬ C))
ignored-of true f c at-first follows content dead = inl (at-first refl)
ignored-of false true c at-first follows content dead = absurd (cc)
ignored-of false false true at-first follows content dead = absurd (cc)
ignored-of false false false at-first follows content dead =
    inr ((λ w. let e : false ≡ true = follows w in absurd (cc)), (λ w. let e : false ≡ true = content w in absurd (cc)))

pub is-ignored : (items earlier : List Item) → AreFirst items earlier → is_live earlier ≡ false → IsIgnoredThere items (length earlier)
is-ignored items earlier first dead =
    of-parts items (length earlier) (ignored-of (only_markup earlier) (ends_in_record earlier) (has_content earlier)
    (first-true items earlier first) (true-follows items earlier first) (true-intervenes items earlier first) dead)

-- the tests of what comes after markup
after-of : {F C : Type 0} (f c : Bool) → (F → f ≡ true) → (C → c ≡ true) → (not f && not c) ≡ true → (¬ F) × (¬ C)
after-of true c follows content e = absurd (cc)
after-of false true follows content e = absurd (cc)
after-of false false follows content e = ((λ w. let e : false ≡ true = follows w in absurd (cc)), (λ w. let e : false ≡ true = content w in absurd (cc)))

of-after : {F C : Type 0} (f c : Bool) → (f ≡ true → F) → (c ≡ true → C) → (¬ F) × (¬ C) → (not f && not c) ≡ true
of-after true c follows content w = absurd (w.0 (follows refl))
of-after false true follows content w = absurd (w.1 (content refl))
of-after false false follows content w = refl

pub after-markup : (items earlier : List Item) → AreFirst items earlier → IsTrue (only_markup_since earlier) ↔ IsIgnoredAfterMarkup items (length earlier)
after-markup items earlier first = (
  (λ e.
      let w = after-of (ends_in_record earlier) (has_content earlier) (true-follows items earlier first) (true-intervenes items earlier first) e in
      record { not_directly = w.0; nothing_since = w.1 }),
  (λ w. of-after (ends_in_record earlier) (has_content earlier) (follows-true items earlier first) (intervenes-true items earlier first) (w.not_directly, w.nothing_since)),
)

pub as-first : (items earlier : List Item) → AreFirst items earlier → IsTrue (only_markup earlier) ↔ IsIgnoredAsFirst items (length earlier)
as-first items earlier first = (first-true items earlier first, true-first items earlier first)

-- an item that releases counts, and one that counts releases
pub counts-of : (items : List Item) (item : Item) (earlier : List Item) → AreFirst items earlier → StandsAt items (length earlier) item → releases item earlier ≡ true → CountsAt items (length earlier)
counts-of items RecordEnd earlier first stands e = (RecordEnd, stands, inr (refl, never-ignored items earlier first e))
counts-of items RecordStart earlier first stands e = absurd (cc)
counts-of items Data earlier first stands e = (Data, stands, inl refl)
counts-of items Subelement earlier first stands e = (Subelement, stands, inl refl)
counts-of items Markup earlier first stands e = absurd (cc)

releases-of : (items : List Item) (item : Item) (earlier : List Item) → AreFirst items earlier → (IsTrue (is_content item) ⊎ ((item ≡ RecordEnd) × ¬ IsIgnoredThere items (length earlier))) → releases item earlier ≡ true
releases-of items RecordEnd earlier first (inl is) = absurd (cc)
releases-of items RecordEnd earlier first (inr w) = is-live items earlier first w.1
releases-of items RecordStart earlier first (inl is) = absurd (cc)
releases-of items RecordStart earlier first (inr w) = absurd (let e : RecordStart ≡ RecordEnd = w.0 in cc)
releases-of items Data earlier first w = refl
releases-of items Subelement earlier first w = refl
releases-of items Markup earlier first (inl is) = absurd (cc)
releases-of items Markup earlier first (inr w) = absurd (let e : Markup ≡ RecordEnd = w.0 in cc)

pub of-counts : (items : List Item) (item : Item) (earlier : List Item) → AreFirst items earlier → StandsAt items (length earlier) item → CountsAt items (length earlier) → releases item earlier ≡ true
of-counts items item earlier first stands w =
    let same : w.0 ≡ item = one-stands items (length earlier) w.0 item w.1 stands in
    releases-of items item earlier first
    (subst (λ x. IsTrue (is_content x) ⊎ ((x ≡ RecordEnd) × ¬ IsIgnoredThere items (length earlier))) same w.2)
