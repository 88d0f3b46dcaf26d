-- The numbers that specifications name.
use Rattle.std.proofs.Common.{◌≡◌, ◌≢◌, ◌<◌, ◌≤◌, ◌+◌, ◌==◌, ◌⊎◌, inl, inr, ◌∷◌, ◌++◌, ℕ, zero, suc, true, false, List, [], Option, Some, None, Result, Ok, Err, refl, sym, ap, ◌∙◌, subst, arith, length, length-set, length-take, length-drop, length-append, set, get_or, map, take, drop, replicate, option_map}
use Rattle.std.specs.Prelude.{slice_get, IfOk}
use Rattle.std.proofs.lemmas.Bool.Decides.{eqb_tells}
use Rattle.std.proofs.lemmas.List.{length-replicate, length-map, take-append-drop, get_or-drop}
use Rattle.std.proofs.lemmas.Option.{slice_get_within, slice_get-map, slice_get-get_or}
use Rattle.sgml_syntax.specs.declared.syntax.Syntax.{Syntax}
use Rattle.sgml_attr.specs.declared.definition.Definition.{Definition}
use Rattle.sgml_attr.specs.declared.definition.Spec.{Spec}
use Rattle.sgml_attr.specs.declared.error.AttrError.{AttrError}
use Rattle.sgml_attr.specs.declared.error.AttrError.TheVariants.{UnknownAttribute}
use Rattle.sgml_attr.specs.Matching.{AreMatched, IsAgainst, IsUnknown, attribute_of, attributes_of}
use Rattle.sgml_attr.proofs.Getting.{get-set-here, get-set-other, get-front, get-cases}
use Rattle.sgml_starts.specs.Numbers.{AreInverted, AreNamed}

none-there : (n i j : ℕ) → slice_get {X = Option ℕ} (replicate n None) j ≡ Some (Some i) → ⊥
none-there zero i j e = cc
none-there (suc n) i zero e = cc
none-there (suc n) i (suc j) e = none-there n i j e

pub none-inverted : (n : ℕ) (matched : List (Option ℕ)) → AreInverted n matched (replicate n None)
none-inverted n matched = record { as_many = length-replicate n None; each = λ i j e. absurd (none-there n i j e) }

module _ (n : ℕ) (matched named : List (Option ℕ)) (i j : ℕ) (h : AreInverted n matched named) (here : slice_get matched i ≡ Some (Some j)) (l : j < length named) where
  each-by : (k m : ℕ) → slice_get (set named j (Some i)) m ≡ Some (Some k) → (((m == j) ≡ true) × (m ≡ j)) ⊎ (((m == j) ≡ false) × (m ≢ j)) → slice_get matched k ≡ Some (Some m)
  each-by k m e (inl same) =
      let got : slice_get (set named j (Some i)) m ≡ Some (Some i) = ap (slice_get (set named j (Some i))) same.1 ∙ get-set-here named j (Some i) l in
      let is : k ≡ i = cc (sym e ∙ got) in
      ap (slice_get matched) is ∙ here ∙ ap (λ (x : ℕ). Some (Some x)) (sym same.1)
  each-by k m e (inr other) = h.each k m (sym (get-set-other named j m (Some i) other.1) ∙ e)

  pub set-inverted : AreInverted n matched (set named j (Some i))
  set-inverted = record { as_many = length-set named j (Some i) ∙ h.as_many; each = λ k m e. each-by k m e (eqb_tells m j) }

-- of matched specifications
pub named-all : (n : ℕ) (all matched named : List (Option ℕ)) → AreMatched n all matched → AreInverted (length all) matched named → AreNamed n all named
named-all n all matched named m h = record {
  few = omega (arith, h.as_many);
  each = λ i j e. (m.each i j).0 (h.each i j e);
  within = λ i j e. omega (arith, m.as_many, slice_get_within matched i (Some j) (h.each i j e));
}

pub many-attributes : (syntax : Syntax) (xs : List Definition) (specs : List Spec) → length (attributes_of syntax xs specs) ≡ length specs
many-attributes syntax xs specs = length-map specs (attribute_of syntax xs)

-- those of the first specifications are those of all
front : (syntax : Syntax) (xs : List Definition) (specs : List Spec) (k j : ℕ) (o : Option ℕ) → slice_get (attributes_of syntax xs (take k specs)) j ≡ Some o
    → slice_get (attributes_of syntax xs specs) j ≡ Some o
front syntax xs specs k j o e =
    by (slice_get (take k specs) j) refl
  where
    by : (s : Option Spec) → slice_get (take k specs) j ≡ s → slice_get (attributes_of syntax xs specs) j ≡ Some o
    by None is = absurd (cc (sym e ∙ slice_get-map (attribute_of syntax xs) (take k specs) j ∙ ap (option_map (attribute_of syntax xs)) is))
    by (Some s) is =
        let there : slice_get specs j ≡ Some s = ap (λ (l : List Spec). slice_get l j) (sym (take-append-drop k specs)) ∙ get-front (take k specs) (drop k specs) j s is in
        slice_get-map (attribute_of syntax xs) specs j ∙ ap (option_map (attribute_of syntax xs)) there ∙ sym (ap (option_map (attribute_of syntax xs)) is)
        ∙ sym (slice_get-map (attribute_of syntax xs) (take k specs) j) ∙ e

pub named-front : (syntax : Syntax) (xs : List Definition) (specs : List Spec) (n k : ℕ) (named : List (Option ℕ)) → AreNamed n (attributes_of syntax xs (take k specs)) named
    → AreNamed n (attributes_of syntax xs specs) named
named-front syntax xs specs n k named h = record {
  few = omega (arith, h.few, many-attributes syntax xs (take k specs), many-attributes syntax xs specs, length-take k specs);
  each = λ i j e. front syntax xs specs k j (Some i) (h.each i j e);
  within = h.within;
}

-- one more of them
pub named-more : (syntax : Syntax) (xs : List Definition) (specs : List Spec) (n k : ℕ) (named : List (Option ℕ)) (o : Option ℕ) → AreNamed n (attributes_of syntax xs specs) named
    → length named ≡ k → k < length specs → ((i : ℕ) → o ≡ Some i → (slice_get (attributes_of syntax xs specs) k ≡ Some (Some i)) × (i < n))
    → AreNamed n (attributes_of syntax xs specs) (named ++ o ∷ [])
named-more syntax xs specs n k named o h many l last = record {
  few = omega (arith, length-append named (o ∷ []), many, l, many-attributes syntax xs specs);
  each = λ i j e. each-by i j (get-cases named o j (Some i) e);
  within = λ i j e. within-by i j (get-cases named o j (Some i) e);
}
  where
    each-by : (i j : ℕ) → (slice_get named j ≡ Some (Some i)) ⊎ ((j ≡ length named) × (o ≡ Some i)) → slice_get (attributes_of syntax xs specs) j ≡ Some (Some i)
    each-by i j (inl e) = h.each i j e
    each-by i j (inr e) = ap (slice_get (attributes_of syntax xs specs)) (e.0 ∙ many) ∙ (last i e.1).0

    within-by : (i j : ℕ) → (slice_get named j ≡ Some (Some i)) ⊎ ((j ≡ length named) × (o ≡ Some i)) → i < n
    within-by i j (inl e) = h.within i j e
    within-by i j (inr e) = (last i e.1).1

behind : (specs : List Spec) (k : ℕ) (s : Spec) → slice_get (drop k specs) 0 ≡ Some s → slice_get specs k ≡ Some s
behind specs k s e =
    let some : 0 < length (drop k specs) = slice_get_within (drop k specs) 0 s e in
    let l : k < length specs = omega (arith, some, length-drop k specs) in
    let same : get_or (drop k specs) 0 s ≡ s = cc (sym (slice_get-get_or (drop k specs) 0 s some) ∙ e) in
    let place : k + 0 ≡ k = omega arith in
    slice_get-get_or specs k s l ∙ ap (λ (n : ℕ). Some (get_or specs n s)) (sym place) ∙ ap (λ (x : Spec). Some x) (sym (get_or-drop k specs 0 s) ∙ same)

-- the first of those from a number on
pub named-behind : (syntax : Syntax) (xs : List Definition) (specs : List Spec) (k m : ℕ) (o : Option ℕ) → slice_get (attributes_of syntax xs (take m (drop k specs))) 0 ≡ Some o
    → slice_get (attributes_of syntax xs specs) k ≡ Some o
named-behind syntax xs specs k m o e = by (slice_get (drop k specs) 0) refl
  where
    whole : slice_get (attributes_of syntax xs (drop k specs)) 0 ≡ Some o
    whole = front syntax xs (drop k specs) m 0 o e

    by : (s : Option Spec) → slice_get (drop k specs) 0 ≡ s → slice_get (attributes_of syntax xs specs) k ≡ Some o
    by None is = absurd (cc (sym whole ∙ slice_get-map (attribute_of syntax xs) (drop k specs) 0 ∙ ap (option_map (attribute_of syntax xs)) is))
    by (Some s) is =
        slice_get-map (attribute_of syntax xs) specs k ∙ ap (option_map (attribute_of syntax xs)) (behind specs k s is) ∙ sym (ap (option_map (attribute_of syntax xs)) is)
        ∙ sym (slice_get-map (attribute_of syntax xs) (drop k specs) 0) ∙ whole

pub if-ok : {T E : Type 0} {A B : T → Type 0} (r : Result T E) → IfOk r A → ((x : T) → A x → B x) → IfOk r B
if-ok (Ok x) h f = f x h
if-ok (Err e) h f = tt

-- one that names no attribute
pub unknown-of : (n : ℕ) (all : List (Option ℕ)) (e : AttrError) (j : ℕ) → e ≡ UnknownAttribute j → IsAgainst n all e → slice_get all j ≡ Some None
unknown-of n all e j is h = by (subst (IsAgainst n all) is h)
  where
    by : IsUnknown n all j → slice_get all j ≡ Some None
    by u = u.unknown
