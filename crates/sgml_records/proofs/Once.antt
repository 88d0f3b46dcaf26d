-- Each record end is ignored or put out, and at one place.
use Rattle.std.specs.Prelude.{◌≡◌, ℕ, zero, suc, ◌<◌, ◌≤◌, ◌⊎◌, Some, None, Bool, true, false, List, length, slice_get}
use Rattle.std.proofs.Common.{refl, sym, ◌∙◌, arith, subst, inl, inr}
use Rattle.std.proofs.lemmas.Bool.{cases_lt}
use Rattle.std.proofs.lemmas.Option.{slice_get_within, slice_get_cases}
use Rattle.sgml_records.specs.Items.{Item, RecordEnd}
use Rattle.sgml_records.specs.RecordEnds.{StandsAt, IsIgnoredThere, CountsAt, IsIgnoredAsLast, IsIgnored, IsPutOutAt}
use Rattle.sgml_records.specs.Facts.{before, is_live, releases}
use Rattle.sgml_records.proofs.Words.{AreFirst, counts-of, of-counts, is-ignored, never-ignored}
use Rattle.sgml_records.proofs.Places.{before-first, length-before}

three : (k n : ℕ) → (k < n) ⊎ ((k ≡ n) ⊎ (n < k))
three k n = grind arith

of-release : (items : List Item) (n : ℕ) (item : Item) → StandsAt items n item → (first : AreFirst items (before items n)) → length (before items n) ≡ n → (b : Bool) → releases item (before items n) ≡ b → CountsAt items n ⊎ (¬ CountsAt items n)
of-release items n item stands first e true r =
    inl (subst (CountsAt items) e (counts-of items item (before items n) first (subst (λ k. StandsAt items k item) (sym e) stands) r))
of-release items n item stands first e false r =
    inr (λ counts.
    let yes = of-counts items item (before items n) first (subst (λ k. StandsAt items k item) (sym e) stands) (subst (CountsAt items) (sym e) counts) in
    let no-way : true ≡ false = sym yes ∙ r in
    absurd (cc))

nothing-stands : (items : List Item) (n : ℕ) (item : Item) → slice_get items n ≡ None → StandsAt items n item → ⊥
nothing-stands items n item none stands = let e : None ≡ Some item = sym none ∙ stands in cc

-- an item counts or it doesn't
counts-or-not : (items : List Item) (n : ℕ) → CountsAt items n ⊎ (¬ CountsAt items n)
counts-or-not items n =
    elim (slice_get_cases items n).1 [
      | inl w ↦
          let within : n ≤ length items = (let below : n < length items = w.1 in omega arith) in
          of-release items n w.0 w.2 (before-first items n within) (length-before items n within) (releases w.0 (before items n)) refl
      | inr w ↦ inr (λ counts. nothing-stands items n counts.0 w.1 counts.1)
    ]

-- none of the places after `i` and before `n` counts
abbrev pub NoneCounts : List Item → ℕ → ℕ → Type 0
NoneCounts items i n = (k : ℕ) → i < k → k < n → ¬ CountsAt items k

one-more : (items : List Item) (i n : ℕ) → NoneCounts items i n → (i < n → ¬ CountsAt items n) → NoneCounts items i (suc n)
one-more items i n none last = λ k after below.
    elim (three k n) [
      | inl l ↦ none k after l
      | inr r ↦ elim r [
        | inl same ↦ subst (λ m. ¬ CountsAt items m) (sym same) (last (subst (λ m. i < m) same after))
        | inr above ↦ absurd (omega arith)
      ]
    ]

search : (items : List Item) (i n : ℕ) → StandsAt items i RecordEnd → ¬ IsIgnoredThere items i → NoneCounts items i n ⊎ ((place : ℕ) × IsPutOutAt items i place)
search items i zero stands live = inl (λ k after below. absurd (omega arith))
search items i (suc n) stands live =
    elim (search items i n stands live) [
      | inr found ↦ inr found
      | inl none ↦ elim (cases_lt i n) [
        | inr early ↦ inl (one-more items i n none (λ later. absurd (omega arith)))
        | inl later ↦ elim (counts-or-not items n) [
          | inl counts ↦ inr (n, record { is_end = stands; not_ignored = live; is_later = later; counts = counts; is_first = none })
          | inr never ↦ inl (one-more items i n none (λ _. never))
        ]
      ]
    ]

-- past the end nothing counts
last-of-all : (items : List Item) (i : ℕ) → NoneCounts items i (length items) → IsIgnoredAsLast items i
last-of-all items i none = λ k after counts. none k after (slice_get_within items k counts.0 counts.1) counts

of-live : (items : List Item) (i : ℕ) → StandsAt items i RecordEnd → AreFirst items (before items i) → length (before items i) ≡ i → (b : Bool) → is_live (before items i) ≡ b → IsIgnored items i ⊎ ((place : ℕ) × IsPutOutAt items i place)
of-live items i stands first e false dead = inl (inl (subst (IsIgnoredThere items) e (is-ignored items (before items i) first dead)))
of-live items i stands first e true live =
    elim (search items i (length items) stands (subst (λ n. ¬ IsIgnoredThere items n) e (never-ignored items (before items i) first live))) [
      | inl none ↦ inl (inr (last-of-all items i none))
      | inr found ↦ inr found
    ]

pub told : (items : List Item) (i : ℕ) → StandsAt items i RecordEnd → IsIgnored items i ⊎ ((place : ℕ) × IsPutOutAt items i place)
told items i stands =
    let within : i ≤ length items = (let below : i < length items = slice_get_within items i RecordEnd stands in omega arith) in
    of-live items i stands (before-first items i within) (length-before items i within) (is_live (before items i)) refl

pub never-both : (items : List Item) (i place : ℕ) → IsIgnored items i → IsPutOutAt items i place → ⊥
never-both items i place (inl there) p = p.not_ignored there
never-both items i place (inr last) p = last place p.is_later p.counts

pub one-place : (items : List Item) (i place other : ℕ) → IsPutOutAt items i place → IsPutOutAt items i other → place ≡ other
one-place items i place other p q =
    elim (three place other) [
      | inl l ↦ absurd (q.is_first place p.is_later l p.counts)
      | inr r ↦ elim r [
        | inl same ↦ same
        | inr l ↦ absurd (p.is_first other q.is_later l q.counts)
      ]
    ]

end-counts : (items : List Item) (i place : ℕ) → IsPutOutAt items i place → CountsAt items i
end-counts items i place p = (RecordEnd, p.is_end, inr (refl, p.not_ignored))

pub one-end : (items : List Item) (i j place : ℕ) → IsPutOutAt items i place → IsPutOutAt items j place → i ≡ j
one-end items i j place p q =
    elim (three i j) [
      | inl l ↦ absurd (p.is_first j l q.is_later (end-counts items j place q))
      | inr r ↦ elim r [
        | inl same ↦ same
        | inr l ↦ absurd (q.is_first i l p.is_later (end-counts items i place p))
      ]
    ]
