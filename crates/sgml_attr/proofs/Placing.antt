-- Values at their places.
use Rattle.std.proofs.Common.{◌≡◌, ◌≢◌, ◌<◌, ◌⊎◌, inl, inr, ℕ, zero, suc, List, [], ◌∷◌, ◌++◌, Option, Some, None, refl, sym, ap, ◌∙◌, subst, arith, length, set, get_or, replicate, length-set}
use Rattle.std.specs.Prelude.{Result, Ok, Err, OnOk, OnErr}
use Rattle.std.specs.Bool.{Decides}
use Rattle.std.proofs.lemmas.Option.{slice_get-get_or}
use Rattle.sgml_attr.specs.declared.value.AttrValue.{AttrValue}
use Rattle.sgml_attr.specs.Currents.{entry_at, entry_in, current_at, placed, EndsInValue, AllEndInValue, SetsOne, SameCurrents}
use Rattle.sgml_attr.specs.Equality.{same_lists, lists-decide}
use Rattle.sgml_attr.proofs.Getting.{get-set-here, get-set-other}

-- an entry without a value before the place changes nothing
pub placed-gap : (es : List (Option AttrValue)) (n : ℕ) (v : AttrValue) → length es < n → placed (es ++ None ∷ []) n v ≡ placed es n v
placed-gap es zero v l = absurd (omega arith)
placed-gap [] (suc n) v l = refl
placed-gap (e ∷ es) (suc n) v l = ap (λ x. e ∷ x) (placed-gap es n v (omega arith))

pub placed-end : (es : List (Option AttrValue)) (n : ℕ) (v : AttrValue) → length es ≡ n → placed es n v ≡ es ++ Some v ∷ []
placed-end [] zero v l = refl
placed-end [] (suc n) v l = absurd (omega arith)
placed-end (e ∷ es) zero v l = absurd (omega arith)
placed-end (e ∷ es) (suc n) v l = ap (λ x. e ∷ x) (placed-end es n v (omega arith))

pub placed-there : (es : List (Option AttrValue)) (n : ℕ) (v : AttrValue) → n < length es → set es n (Some v) ≡ placed es n v
placed-there [] n v l = absurd (omega arith)
placed-there (e ∷ es) zero v l = refl
placed-there (e ∷ es) (suc n) v l = ap (λ x. e ∷ x) (placed-there es n v (omega arith))

entry-here : (es : List (Option AttrValue)) (n : ℕ) (v : AttrValue) → entry_at (placed es n v) n ≡ Some v
entry-here [] zero v = refl
entry-here [] (suc n) v = entry-here [] n v
entry-here (e ∷ es) zero v = refl
entry-here (e ∷ es) (suc n) v = entry-here es n v

entry-other : (es : List (Option AttrValue)) (n m : ℕ) (v : AttrValue) → m ≢ n → entry_at (placed es n v) m ≡ entry_at es m
entry-other [] zero zero v d = absurd (d refl)
entry-other [] zero (suc m) v d = refl
entry-other [] (suc n) zero v d = refl
entry-other [] (suc n) (suc m) v d = entry-other [] n m v (λ e. d (ap suc e))
entry-other (e ∷ es) zero zero v d = absurd (d refl)
entry-other (e ∷ es) zero (suc m) v d = refl
entry-other (e ∷ es) (suc n) zero v d = refl
entry-other (e ∷ es) (suc n) (suc m) v d = entry-other es n m v (λ is. d (ap suc is))

ends-tail : (e : Option AttrValue) (es : List (Option AttrValue)) → EndsInValue (e ∷ es) → EndsInValue es
ends-tail e [] h = tt
ends-tail e (f ∷ es) h = h

ends-before : (e : Option AttrValue) (es : List (Option AttrValue)) (n : ℕ) (v : AttrValue) → EndsInValue (placed es n v) → EndsInValue (e ∷ placed es n v)
ends-before e [] zero v h = h
ends-before e [] (suc n) v h = h
ends-before e (f ∷ es) zero v h = h
ends-before e (f ∷ es) (suc n) v h = h

pub placed-ends : (es : List (Option AttrValue)) (n : ℕ) (v : AttrValue) → EndsInValue es → EndsInValue (placed es n v)
placed-ends [] zero v h = refl
placed-ends [] (suc n) v h = ends-before None [] n v (placed-ends [] n v tt)
placed-ends (e ∷ []) zero v h = refl
placed-ends (e ∷ (f ∷ es)) zero v h = h
placed-ends (e ∷ es) (suc n) v h = ends-before e es n v (placed-ends es n v (ends-tail e es h))

pub replicate-ends : (n : ℕ) → AllEndInValue (replicate n [])
replicate-ends zero = tt
replicate-ends (suc n) = (tt, replicate-ends n)

-- the lists with one other list at a place
pub set-ends : (lists : List (List (Option AttrValue))) (n : ℕ) (es : List (Option AttrValue)) → AllEndInValue lists → EndsInValue es → AllEndInValue (set lists n es)
set-ends [] n es a h = tt
set-ends (x ∷ lists) zero es a h = (h, a.1)
set-ends (x ∷ lists) (suc n) es a h = (a.0, set-ends lists n es a.1 h)

pub ends-at : (lists : List (List (Option AttrValue))) (n : ℕ) (d : List (Option AttrValue)) → n < length lists → AllEndInValue lists → EndsInValue (get_or lists n d)
ends-at [] n d l a = absurd (omega arith)
ends-at (x ∷ lists) zero d l a = a.0
ends-at (x ∷ lists) (suc n) d l a = ends-at lists n d (omega arith) a.1

same-or-not : (a b : ℕ) → (a ≡ b) ⊎ (a ≢ b)
same-or-not zero zero = inl refl
same-or-not zero (suc b) = inr (λ e. omega arith)
same-or-not (suc a) zero = inr (λ e. omega arith)
same-or-not (suc a) (suc b) = up (same-or-not a b)
  where
    up : (a ≡ b) ⊎ (a ≢ b) → (suc a ≡ suc b) ⊎ (suc a ≢ suc b)
    up (inl e) = inl (ap suc e)
    up (inr d) = inr (λ e. d (omega arith))

module _ (old : List (List (Option AttrValue))) (list attribute : ℕ) (v : AttrValue) (d : List (Option AttrValue)) (l : list < length old) where
  is-set : current_at (set old list (placed (get_or old list d) attribute v)) list attribute ≡ Some v
  is-set =
      ap (λ x. entry_in x attribute) (get-set-here old list (placed (get_or old list d) attribute v) l)
      ∙ entry-here (get_or old list d) attribute v

  others-by : (k a : ℕ) → (k ≡ list) ⊎ (k ≢ list) → (k ≢ list) ⊎ (a ≢ attribute) → current_at (set old list (placed (get_or old list d) attribute v)) k a ≡ current_at old k a
  others-by k a (inr other) h = ap (λ x. entry_in x a) (get-set-other old list k (placed (get_or old list d) attribute v) other)
  others-by k a (inl same) (inl other) = absurd (other same)
  others-by k a (inl same) (inr other) =
      ap (λ x. current_at (set old list (placed (get_or old list d) attribute v)) x a) same
      ∙ ap (λ x. entry_in x a) (get-set-here old list (placed (get_or old list d) attribute v) l)
      ∙ entry-other (get_or old list d) attribute a v other
      ∙ ap (λ x. entry_in x a) (sym (slice_get-get_or old list d l))
      ∙ ap (λ x. current_at old x a) (sym same)

  sets-one-here : SetsOne old (set old list (placed (get_or old list d) attribute v)) list attribute v
  sets-one-here = record {
    as_many = length-set old list (placed (get_or old list d) attribute v);
    is_set = is-set;
    others = λ k a h. others-by k a (same-or-not k list) h;
  }

pub sets-one : (old new : List (List (Option AttrValue))) (list attribute : ℕ) (v : AttrValue) (d : List (Option AttrValue)) → list < length old
    → new ≡ set old list (placed (get_or old list d) attribute v) → SetsOne old new list attribute v
sets-one old new list attribute v d l is = subst (λ x. SetsOne old x list attribute v) (sym is) (sets-one-here old list attribute v d l)

last-is : (e : Option AttrValue) (es : List (Option AttrValue)) → EndsInValue (e ∷ es) → (n : ℕ) × (v : AttrValue) × (entry_at (e ∷ es) n ≡ Some v)
last-is (Some v) [] h = (0, v, refl)
last-is None [] h = cc
last-is e (f ∷ es) h = let last = last-is f es h in (suc last.0, last.1, last.2)

no-entry : (e : Option AttrValue) (es : List (Option AttrValue)) → EndsInValue (e ∷ es) → ((n : ℕ) → entry_at (e ∷ es) n ≡ None) → ⊥
no-entry e es h none = let last = last-is e es h in clash (none last.0) last.2
  where
    clash : {o : Option AttrValue} {v : AttrValue} → o ≡ None → o ≡ Some v → ⊥
    clash p q = cc

-- entries with the same values are the same
entries-same : (a b : List (Option AttrValue)) → EndsInValue a → EndsInValue b → ((n : ℕ) → entry_at a n ≡ entry_at b n) → a ≡ b
entries-same [] [] p q h = refl
entries-same [] (f ∷ b) p q h = absurd (no-entry f b q (λ n. sym (h n)))
entries-same (e ∷ a) [] p q h = absurd (no-entry e a p h)
entries-same (e ∷ a) (f ∷ b) p q h =
    ap (λ x. x ∷ a) (h zero) ∙ ap (λ x. f ∷ x) (entries-same a b (ends-tail e a p) (ends-tail f b q) (λ n. h (suc n)))

lists-same : (a b : List (List (Option AttrValue))) → AllEndInValue a → AllEndInValue b → length a ≡ length b
    → ((list attribute : ℕ) → current_at a list attribute ≡ current_at b list attribute) → a ≡ b
lists-same [] [] p q l h = refl
lists-same [] (y ∷ b) p q l h = absurd (omega arith)
lists-same (x ∷ a) [] p q l h = absurd (omega arith)
lists-same (x ∷ a) (y ∷ b) p q l h =
    ap (λ z. z ∷ a) (entries-same x y p.0 q.0 (h zero)) ∙ ap (λ z. y ∷ z) (lists-same a b p.1 q.1 (omega arith) (λ n. h (suc n)))

itself : (a : List (List (Option AttrValue))) → SameCurrents a a
itself a = record { as_many = refl; same = λ n m. refl }

pub currents-decide : (a b : List (List (Option AttrValue))) → AllEndInValue a → AllEndInValue b → Decides (same_lists a b) (SameCurrents a b)
currents-decide a b p q = (
  λ e. subst (SameCurrents a) ((lists-decide a b).0 e) (itself a),
  λ s. (lists-decide a b).1 (lists-same a b p q s.as_many s.same),
)

-- after the call the entries end in a value, too
pub ends-after : {E : Type 0} (r : Result (Unit {0}) E) (old new : List (Option AttrValue)) (n : ℕ) (v : AttrValue) → EndsInValue old
    → OnOk r (new ≡ placed old n v) → OnErr r (new ≡ old) → EndsInValue new
ends-after (Ok x) old new n v h ok err = subst EndsInValue (sym ok) (placed-ends old n v h)
ends-after (Err e) old new n v h ok err = subst EndsInValue (sym err) h

pub on-ok : {E : Type 0} {A B : Type 0} (r : Result (Unit {0}) E) → OnOk r A → (A → B) → OnOk r B
on-ok (Ok x) a f = f a
on-ok (Err e) a f = tt
