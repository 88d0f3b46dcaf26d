-- The specifications, one after another.
use Rattle.std.proofs.Common.{◌≡◌, ◌≢◌, ◌<◌, ◌+◌, ◌⊎◌, inl, inr, ℕ, zero, suc, List, [], ◌∷◌, ◌++◌, Option, Some, None, refl, sym, ap, ◌∙◌, subst, arith, length, set, take, replicate, length-take, length-append, length-set, is_some, get_or, drop, true, false, option_map}
use Rattle.std.specs.Prelude.{slice_get}
use Rattle.std.proofs.lemmas.List.{length-replicate, take-append-drop}
use Rattle.std.proofs.lemmas.Option.{slice_get_within, slice_get-map, slice_get-get_or}
use Rattle.sgml_syntax.specs.declared.syntax.Syntax.{Syntax}
use Rattle.sgml_attr.specs.declared.definition.Definition.{Definition}
use Rattle.sgml_attr.specs.declared.definition.Spec.{Spec}
use Rattle.sgml_attr.specs.Matching.{AreMatched, IsTwice, attribute_of, attributes_of}
use Rattle.sgml_attr.proofs.Getting.{get-set-here, get-set-other, get-front, get-end, get-cases, take-get}

none-there : (n i j : ℕ) → slice_get {X = Option ℕ} (replicate n None) i ≡ Some (Some j) → ⊥
none-there zero i j e = cc
none-there (suc n) zero j e = cc
none-there (suc n) (suc i) j e = none-there n i j e

-- before the first
pub none-matched : (n : ℕ) → AreMatched n [] (replicate n None)
none-matched n = record {
  as_many = length-replicate n None;
  each = λ i j. (λ e. absurd (none-there n i j e), λ e. cc);
  all_named = λ j l. absurd (omega arith);
}

same-or-not : (a b : ℕ) → (a ≡ b) ⊎ (a ≢ b)
same-or-not zero zero = inl refl
same-or-not zero (suc b) = inr (λ e. omega arith)
same-or-not (suc a) zero = inr (λ e. omega arith)
same-or-not (suc a) (suc b) = up (same-or-not a b)
  where
    up : (a ≡ b) ⊎ (a ≢ b) → (suc a ≡ suc b) ⊎ (suc a ≢ suc b)
    up (inl e) = inl (ap suc e)
    up (inr d) = inr (λ e. d (omega arith))

module _ (n : ℕ) (named matched : List (Option ℕ)) (m : AreMatched n named matched) (i : ℕ) (free : slice_get matched i ≡ Some None) where
  next : List (Option ℕ)
  next = set matched i (Some (length named))

  here : slice_get (set matched i (Some (length named))) i ≡ Some (Some (length named))
  here = get-set-here matched i (Some (length named)) (slice_get_within matched i None free)

  forth-by : (k j : ℕ) → (k ≡ i) ⊎ (k ≢ i) → slice_get (set matched i (Some (length named))) k ≡ Some (Some j) → slice_get (named ++ Some i ∷ []) j ≡ Some (Some k)
  forth-by k j (inl e) h =
      let at : slice_get (set matched i (Some (length named))) i ≡ Some (Some j) = subst (λ x. slice_get (set matched i (Some (length named))) x ≡ Some (Some j)) e h in
      let place : j ≡ length named = cc (here, at) in
      get-end named (Some i) j place ∙ ap (λ x. Some (Some x)) (sym e)
  forth-by k j (inr d) h =
      get-front named (Some i ∷ []) j (Some k) ((m.each k j).0 (sym (get-set-other matched i k (Some (length named)) d) ∙ h))

  back-by : (k j : ℕ) → (slice_get named j ≡ Some (Some k)) ⊎ ((j ≡ length named) × (Some i ≡ Some k)) → slice_get (set matched i (Some (length named))) k ≡ Some (Some j)
  back-by k j (inl h) =
      let old : slice_get matched k ≡ Some (Some j) = (m.each k j).1 h in
      let differs : k ≢ i = λ e. clash (sym (ap (λ x. slice_get matched x) e) ∙ old) in
      get-set-other matched i k (Some (length named)) differs ∙ old
    where
      clash : slice_get matched i ≡ Some (Some j) → ⊥
      clash h = cc
  back-by k j (inr h) =
      let same : i ≡ k = cc in
      subst (λ x. slice_get (set matched i (Some (length named))) x ≡ Some (Some j)) same (here ∙ ap (λ x. Some (Some x)) (sym h.0))

  named-by : (j : ℕ) → j < length (named ++ Some i ∷ []) → (j < length named) ⊎ (j ≡ length named) → (k : ℕ) × (slice_get (named ++ Some i ∷ []) j ≡ Some (Some k))
  named-by j l (inl h) = let there = m.all_named j h in (there.0, get-front named (Some i ∷ []) j (Some there.0) there.1)
  named-by j l (inr h) = (i, get-end named (Some i) j h)

  split : (j : ℕ) → j < length (named ++ Some i ∷ []) → (j < length named) ⊎ (j ≡ length named)
  split j l = by (same-or-not j (length named))
    where
      by : (j ≡ length named) ⊎ (j ≢ length named) → (j < length named) ⊎ (j ≡ length named)
      by (inl e) = inr e
      by (inr d) = inl (omega (arith, length-append named (Some i ∷ [])))

  -- one more names an attribute that had none
  matched-next : AreMatched n (named ++ Some i ∷ []) (set matched i (Some (length named)))
  matched-next = record {
    as_many = length-set matched i (Some (length named)) ∙ m.as_many;
    each = λ k j. (λ h. forth-by k j (same-or-not k i) h, λ h. back-by k j (get-cases named (Some i) j (Some k) h));
    all_named = λ j l. named-by j l (split j l);
  }

-- the same for the first specifications of all
pub matched-step : (n : ℕ) (all matched : List (Option ℕ)) (j i : ℕ) → AreMatched n (take j all) matched → slice_get matched i ≡ Some None
    → slice_get all j ≡ Some (Some i) → AreMatched n (take (j + 1) all) (set matched i (Some j))
matched-step n all matched j i m free is =
    let below : j < length all = slice_get_within all j (Some i) is in
    let count : length (take j all) ≡ j = omega (arith, length-take j all) in
    subst (λ x. AreMatched n x (set matched i (Some j))) (sym (take-get all j (Some i) is))
    (subst (λ x. AreMatched n (take j all ++ Some i ∷ []) (set matched i (Some x))) count (matched-next n (take j all) matched m i free))

-- the attribute that a specification names
pub named-at : (syntax : Syntax) (ds : List Definition) (specs : List Spec) (j : ℕ) (spec : Spec) (o : Option ℕ) → j < length specs → spec ≡ get_or specs j spec
    → o ≡ attribute_of syntax ds spec → slice_get (attributes_of syntax ds specs) j ≡ Some o
named-at syntax ds specs j spec o l is names =
    slice_get-map (attribute_of syntax ds) specs j
    ∙ ap (option_map (attribute_of syntax ds)) (slice_get-get_or specs j spec l ∙ ap (λ x. Some x) (sym is))
    ∙ ap (λ x. Some x) (sym names)

pub free-at : (matched : List (Option ℕ)) (i : ℕ) (o : Option ℕ) → i < length matched → o ≡ get_or matched i o → is_some o ≡ false → slice_get matched i ≡ Some None
free-at matched i None l is free = slice_get-get_or matched i None l ∙ ap (λ x. Some x) (sym is)
free-at matched i (Some k) l is free = cc

-- it names the attribute of an earlier one
pub twice-at : (n : ℕ) (all matched : List (Option ℕ)) (j i : ℕ) (o : Option ℕ) → AreMatched n (take j all) matched → i < length matched → o ≡ get_or matched i o
    → is_some o ≡ true → slice_get all j ≡ Some (Some i) → IsTwice n all j
twice-at n all matched j i None m l is taken here = cc
twice-at n all matched j i (Some k) m l is taken here =
    let there : slice_get (take j all) k ≡ Some (Some i) = (m.each i k).0 (slice_get-get_or matched i (Some k) l ∙ ap (λ x. Some x) (sym is)) in
    record {
      before = (matched, m);
      attribute = i;
      earlier = k;
      is_earlier = omega (arith, length-take j all, slice_get_within (take j all) k (Some i) there);
      here = here;
      there = ap (λ x. slice_get x k) (sym (take-append-drop j all)) ∙ get-front (take j all) (drop j all) k (Some i) there;
    }

same-items : (a b : List (Option ℕ)) → length a ≡ length b → ((i : ℕ) → slice_get a i ≡ slice_get b i) → a ≡ b
same-items [] [] l h = refl
same-items [] (y ∷ b) l h = absurd (omega arith)
same-items (x ∷ a) [] l h = absurd (omega arith)
same-items (x ∷ a) (y ∷ b) l h =
    let head : x ≡ y = cc (h zero) in
    ap (λ z. z ∷ a) head ∙ ap (λ z. y ∷ z) (same-items a b (omega arith) (λ i. h (suc i)))

-- what one has, the other has
item-by : (n : ℕ) (named a b : List (Option ℕ)) → AreMatched n named a → AreMatched n named b → (i : ℕ) (o p : Option (Option ℕ)) → slice_get a i ≡ o → slice_get b i ≡ p → o ≡ p
item-by n named a b m k i None None e f = refl
item-by n named a b m k i (Some (Some j)) p e f = sym ((k.each i j).1 ((m.each i j).0 e)) ∙ f
item-by n named a b m k i o (Some (Some j)) e f = sym e ∙ (m.each i j).1 ((k.each i j).0 f)
item-by n named a b m k i (Some None) (Some None) e f = refl
item-by n named a b m k i None (Some None) e f = absurd (past (slice_get_within b i None f))
  where
    past : i < length b → ⊥
    past l = lost (slice_get-get_or a i None (omega (arith, m.as_many, k.as_many)))
      where
        lost : slice_get a i ≡ Some (get_or a i None) → ⊥
        lost g = cc
item-by n named a b m k i (Some None) None e f = absurd (past (slice_get_within a i None e))
  where
    past : i < length a → ⊥
    past l = lost (slice_get-get_or b i None (omega (arith, m.as_many, k.as_many)))
      where
        lost : slice_get b i ≡ Some (get_or b i None) → ⊥
        lost g = cc

-- one matching fits
pub matched-once : (n : ℕ) (named a b : List (Option ℕ)) → AreMatched n named a → AreMatched n named b → a ≡ b
matched-once n named a b m k =
    same-items a b (m.as_many ∙ sym k.as_many) (λ i. item-by n named a b m k i (slice_get a i) (slice_get b i) refl refl)
