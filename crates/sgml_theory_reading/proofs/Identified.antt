-- The first fault of identifiers is found.
use Rattle.std.specs.Prelude.{◌≡◌, ◌<◌, ◌≤◌, ◌+◌, ◌-◌, ◌⊎◌, ℕ, zero, suc, Bool, true, false, not, ◌||◌, Option, Some, None, List, [], ◌∷◌, ◌++◌, cond, bytes_eq}
use Rattle.std.specs.List.{list_any}
use Rattle.std.proofs.Common.{refl, sym, ap, ◌∙◌, arith, subst, inl, inr}
use Rattle.std.proofs.lemmas.Bool.{or_left, or_right}
use Rattle.std.proofs.lemmas.Slice.Eq.{bytes_eq-Decides}
use Rattle.sgml_dtd.specs.text.declared.reason.Reason.{Reason}
use Rattle.sgml_dtd.specs.text.declared.reason.Reason.TheVariants.{Repeated, Dangling}
use Rattle.sgml_theory_reading.specs.Names.{Name}
use Rattle.sgml_theory_reading.specs.Types.{is_in}
use Rattle.sgml_theory_reading.specs.Reads.{Attribute}
use Rattle.sgml_theory_reading.specs.Events.{Event}
use Rattle.sgml_theory_reading.specs.Identifiers.{ids_of, references_of, starts, all_ids, some_in, some_not_in, id_fault_from, id_fault, start_at, IsIdAt, Repeats, Dangles, IsFirstFault}

either : (a b : Bool) → (a || b) ≡ true → (a ≡ true) ⊎ (b ≡ true)
either true b e = inl refl
either false b e = inr e

-- a name is in one of two lists
in-append : (n : Name) (ns ms : List Name) → is_in n (ns ++ ms) ≡ true → (is_in n ns ≡ true) ⊎ (is_in n ms ≡ true)
in-append n [] ms e = inr e
in-append n (k ∷ ns) ms e =
    elim (either (bytes_eq n k) (is_in n (ns ++ ms)) e) [
      | inl l ↦ inl (or_left (bytes_eq n k) (is_in n ns) l)
      | inr r ↦ elim (in-append n ns ms r) [
        | inl q ↦ inl (or_right (bytes_eq n k) (is_in n ns) q)
        | inr q ↦ inr q
      ]
    ]

in-left : (n : Name) (ns ms : List Name) → is_in n ns ≡ true → is_in n (ns ++ ms) ≡ true
in-left n [] ms e = absurd (cc)
in-left n (k ∷ ns) ms e =
    elim (either (bytes_eq n k) (is_in n ns) e) [
      | inl l ↦ or_left (bytes_eq n k) (is_in n (ns ++ ms)) l
      | inr r ↦ or_right (bytes_eq n k) (is_in n (ns ++ ms)) (in-left n ns ms r)
    ]

in-right : (n : Name) (ns ms : List Name) → is_in n ms ≡ true → is_in n (ns ++ ms) ≡ true
in-right n [] ms e = e
in-right n (k ∷ ns) ms e = or_right (bytes_eq n k) (is_in n (ns ++ ms)) (in-right n ns ms e)

-- a test holds of some name of a list
any-found : (p : Name → Bool) (ns : List Name) → list_any p ns ≡ true → (n : Name) × (is_in n ns ≡ true) × (p n ≡ true)
any-found p [] e = absurd (cc)
any-found p (k ∷ ns) e =
    elim (either (p k) (list_any p ns) e) [
      | inl l ↦ (k, or_left (bytes_eq k k) (is_in k ns) ((bytes_eq-Decides k k).1 refl), l)
      | inr r ↦ let w = any-found p ns r in (w.0, or_right (bytes_eq w.0 k) (is_in w.0 ns) w.1, w.2)
    ]

found-any : (p : Name → Bool) (ns : List Name) (n : Name) → is_in n ns ≡ true → p n ≡ true → list_any p ns ≡ true
found-any p [] n e q = absurd (cc)
found-any p (k ∷ ns) n e q =
    elim (either (bytes_eq n k) (is_in n ns) e) [
      | inl l ↦ or_left (p k) (list_any p ns) (ap p (sym ((bytes_eq-Decides n k).0 l)) ∙ q)
      | inr r ↦ or_right (p k) (list_any p ns) (found-any p ns n r q)
    ]

-- all IDs are those of the starts
id-of-some : (ss : List (List Attribute)) (n : Name) → is_in n (all_ids ss) ≡ true → (i : ℕ) × IsIdAt ss i n
id-of-some [] n e = absurd (cc)
id-of-some (s ∷ ss) n e =
    elim (in-append n (ids_of s) (all_ids ss) e) [
      | inl l ↦ (zero, l)
      | inr r ↦ let w = id-of-some ss n r in (suc w.0, w.1)
    ]

some-is-id : (ss : List (List Attribute)) (i : ℕ) (n : Name) → IsIdAt ss i n → is_in n (all_ids ss) ≡ true
some-is-id [] i n e = absurd (cc)
some-is-id (s ∷ ss) zero n e = in-left n (ids_of s) (all_ids ss) e
some-is-id (s ∷ ss) (suc i) n e = in-right n (ids_of s) (all_ids ss) (some-is-id ss i n e)

-- the first k starts were judged, and these are left
record Judged (whole : List (List Attribute)) (k : ℕ) (earlier : List Name) (ss : List (List Attribute)) : Type 0 where
  place : (i : ℕ) → start_at whole (k + i) ≡ start_at ss i
  of_earlier : (n : Name) → is_in n earlier ≡ true → (i : ℕ) × (i < k) × IsIdAt whole i n
  earlier_of : (n : Name) (i : ℕ) → i < k → IsIdAt whole i n → is_in n earlier ≡ true
  none_repeats : (i : ℕ) → i < k → ¬ Repeats whole i
  none_dangles : (i : ℕ) → i < k → ¬ Dangles whole i

add-none : (k : ℕ) → k + 0 ≡ k
add-none k = omega arith

this-start : (whole : List (List Attribute)) (k : ℕ) (earlier : List Name) (s : List Attribute) (ss : List (List Attribute)) → Judged whole k earlier (s ∷ ss) → start_at whole k ≡ s
this-start whole k earlier s ss j = ap (start_at whole) (sym (add-none k)) ∙ j.place zero

last-or-before : (i k : ℕ) → i < suc k → (i < k) ⊎ (i ≡ k)
last-or-before i k below = grind arith

repeats-at : (whole : List (List Attribute)) (k : ℕ) (earlier : List Name) (s : List Attribute) (ss : List (List Attribute)) → Judged whole k earlier (s ∷ ss) → some_in (ids_of s) earlier ≡ true → Repeats whole k
repeats-at whole k earlier s ss j e =
    let w = any-found (λ n. is_in n earlier) (ids_of s) e in
    let f = j.of_earlier w.0 w.2 in
    (w.0, f.0, f.1, f.2, ap (λ (x : List Attribute). is_in w.0 (ids_of x)) (this-start whole k earlier s ss j) ∙ w.1)

at-repeats : (whole : List (List Attribute)) (k : ℕ) (earlier : List Name) (s : List Attribute) (ss : List (List Attribute)) → Judged whole k earlier (s ∷ ss) → Repeats whole k → some_in (ids_of s) earlier ≡ true
at-repeats whole k earlier s ss j r =
    found-any (λ n. is_in n earlier) (ids_of s) r.0
    (ap (λ (x : List Attribute). is_in r.0 (ids_of x)) (sym (this-start whole k earlier s ss j)) ∙ r.4)
    (j.earlier_of r.0 r.1 r.2 r.3)

not-true : (b : Bool) → not b ≡ true → b ≡ true → ⊥
not-true true e f = cc
not-true false e f = cc

not-false : (b : Bool) → (b ≡ true → ⊥) → not b ≡ true
not-false true never = absurd (never refl)
not-false false never = refl

dangles-at : (whole : List (List Attribute)) (k : ℕ) (earlier : List Name) (s : List Attribute) (ss : List (List Attribute)) → Judged whole k earlier (s ∷ ss) → some_not_in (references_of s) (all_ids whole) ≡ true → Dangles whole k
dangles-at whole k earlier s ss j e =
    let w = any-found (λ n. not (is_in n (all_ids whole))) (references_of s) e in (
      w.0,
      ap (λ (x : List Attribute). is_in w.0 (references_of x)) (this-start whole k earlier s ss j) ∙ w.1,
      (λ i is. not-true (is_in w.0 (all_ids whole)) w.2 (some-is-id whole i w.0 is)),
    )

at-dangles : (whole : List (List Attribute)) (k : ℕ) (earlier : List Name) (s : List Attribute) (ss : List (List Attribute)) → Judged whole k earlier (s ∷ ss) → Dangles whole k → some_not_in (references_of s) (all_ids whole) ≡ true
at-dangles whole k earlier s ss j d =
    found-any (λ n. not (is_in n (all_ids whole))) (references_of s) d.0
    (ap (λ (x : List Attribute). is_in d.0 (references_of x)) (sym (this-start whole k earlier s ss j)) ∙ d.1)
    (not-false (is_in d.0 (all_ids whole)) (λ e. let w = id-of-some whole d.0 e in d.2 w.0 w.1))

-- one start more was judged and has no fault
judged-more : (whole : List (List Attribute)) (k : ℕ) (earlier : List Name) (s : List Attribute) (ss : List (List Attribute)) → Judged whole k earlier (s ∷ ss) → some_in (ids_of s) earlier ≡ false → some_not_in (references_of s) (all_ids whole) ≡ false → Judged whole (suc k) (earlier ++ ids_of s) ss
judged-more whole k earlier s ss j no-repeat no-dangle = record {
  place = λ i. ap (start_at whole) (shifted i) ∙ j.place (suc i);
  of_earlier = λ n e. elim (in-append n earlier (ids_of s) e) [
    | inl l ↦ (let w = j.of_earlier n l in (w.0, (let b = w.1 in omega arith), w.2))
    | inr r ↦ (k, omega arith, ap (λ (x : List Attribute). is_in n (ids_of x)) at ∙ r)
  ];
  earlier_of = λ n i below is. elim (last-or-before i k below) [
    | inl l ↦ in-left n earlier (ids_of s) (j.earlier_of n i l is)
    | inr same ↦ in-right n earlier (ids_of s) (ap (λ (x : List Attribute). is_in n (ids_of x)) (sym at) ∙ (ap (λ (m : ℕ). is_in n (ids_of (start_at whole m))) (sym same) ∙ is))
  ];
  none_repeats = λ i below. elim (last-or-before i k below) [
    | inl l ↦ j.none_repeats i l
    | inr same ↦ λ r. never (some_in (ids_of s) earlier) (at-repeats whole k earlier s ss j (subst (Repeats whole) same r)) no-repeat
  ];
  none_dangles = λ i below. elim (last-or-before i k below) [
    | inl l ↦ j.none_dangles i l
    | inr same ↦ λ d. never (some_not_in (references_of s) (all_ids whole)) (at-dangles whole k earlier s ss j (subst (Dangles whole) same d)) no-dangle
  ];
}
  where
    at : start_at whole k ≡ s
    at = this-start whole k earlier s ss j

    shifted : (i : ℕ) → suc k + i ≡ k + suc i
    shifted i = omega arith

    never : (b : Bool) → b ≡ true → b ≡ false → ⊥
    never b e f = let z : true ≡ false = sym e ∙ f in cc

abbrev Told : List (List Attribute) → Option (ℕ × Reason) → Type 0
Told whole None = ((k : ℕ) → ¬ Repeats whole k) × ((k : ℕ) → ¬ Dangles whole k)
Told whole (Some f) = IsFirstFault whole f.0 f.1

never-there : (whole : List (List Attribute)) (k : ℕ) (earlier : List Name) (i : ℕ) → Judged whole k earlier [] → k ≤ i → start_at whole i ≡ []
never-there whole k earlier i j above =
    let e : i ≡ k + (i - k) = omega arith in
    ap (start_at whole) e ∙ j.place (i - k)

before-or-after : (i k : ℕ) → (i < k) ⊎ (k ≤ i)
before-or-after i k = grind arith

none-left : (whole : List (List Attribute)) (k : ℕ) (earlier : List Name) → Judged whole k earlier [] → Told whole None
none-left whole k earlier j = (
  (λ i r. elim (before-or-after i k) [
    | inl l ↦ j.none_repeats i l r
    | inr a ↦ nothing r.0 (ap (λ (x : List Attribute). is_in r.0 (ids_of x)) (sym (never-there whole k earlier i j a)) ∙ r.4)
  ]),
  (λ i d. elim (before-or-after i k) [
    | inl l ↦ j.none_dangles i l d
    | inr a ↦ nothing d.0 (ap (λ (x : List Attribute). is_in d.0 (references_of x)) (sym (never-there whole k earlier i j a)) ∙ d.1)
  ]),
)
  where
    nothing : (n : Name) → is_in n [] ≡ true → ⊥
    nothing n e = cc

by-tests : (whole : List (List Attribute)) (k : ℕ) (earlier : List Name) (s : List Attribute) (ss : List (List Attribute)) → Judged whole k earlier (s ∷ ss) → (Judged whole (suc k) (earlier ++ ids_of s) ss → Told whole (id_fault_from (earlier ++ ids_of s) (all_ids whole) (suc k) ss)) →
    (a b : Bool) → some_in (ids_of s) earlier ≡ a → some_not_in (references_of s) (all_ids whole) ≡ b →
    Told whole (cond a (Some (k, Repeated)) (cond b (Some (k, Dangling)) (id_fault_from (earlier ++ ids_of s) (all_ids whole) (suc k) ss)))
by-tests whole k earlier s ss j rest true b e f = record {
  none_repeats = j.none_repeats;
  none_dangles = j.none_dangles;
  is_one = inl (refl, repeats-at whole k earlier s ss j e);
}
by-tests whole k earlier s ss j rest false true e f = record {
  none_repeats = j.none_repeats;
  none_dangles = j.none_dangles;
  is_one = inr (refl, (λ r. let z : true ≡ false = sym (at-repeats whole k earlier s ss j r) ∙ e in absurd (cc)), dangles-at whole k earlier s ss j f);
}
by-tests whole k earlier s ss j rest false false e f = rest (judged-more whole k earlier s ss j e f)

fault-told : (whole : List (List Attribute)) (k : ℕ) (earlier : List Name) (ss : List (List Attribute)) → Judged whole k earlier ss → Told whole (id_fault_from earlier (all_ids whole) k ss)
fault-told whole k earlier [] j = none-left whole k earlier j
fault-told whole k earlier (s ∷ ss) j =
    by-tests whole k earlier s ss j (λ i. fault-told whole (suc k) (earlier ++ ids_of s) ss i)
    (some_in (ids_of s) earlier) (some_not_in (references_of s) (all_ids whole)) refl refl

zero-plus : (i : ℕ) → 0 + i ≡ i
zero-plus i = omega arith

judged-none : (whole : List (List Attribute)) → Judged whole 0 [] whole
judged-none whole = record {
  place = λ i. ap (start_at whole) (zero-plus i);
  of_earlier = λ n e. absurd (let z : false ≡ true = e in cc);
  earlier_of = λ n i below is. absurd (omega arith);
  none_repeats = λ i below. absurd (omega arith);
  none_dangles = λ i below. absurd (omega arith);
}

told : (es : List Event) → Told (starts es) (id_fault es)
unfolding id_fault
told es = fault-told (starts es) 0 [] (starts es) (judged-none (starts es))

pub fault-is-first : (es : List Event) (k : ℕ) (r : Reason) → id_fault es ≡ Some (k, r) → IsFirstFault (starts es) k r
fault-is-first es k r e = subst (Told (starts es)) e (told es)

pub none-is-agreement : (es : List Event) → id_fault es ≡ None → ((k : ℕ) → ¬ Repeats (starts es) k) × ((k : ℕ) → ¬ Dangles (starts es) k)
none-is-agreement es e = subst (Told (starts es)) e (told es)
