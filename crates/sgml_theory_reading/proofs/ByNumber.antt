-- Current values by the numbers of lists and definitions.
use Rattle.std.proofs.Common.{◌≡◌, ℕ, zero, suc, ◌<◌, ◌≤◌, ◌==◌, ◌&&◌, Bool, true, false, cond, if◌then◌else◌, List, [], ◌∷◌, Option, Some, None, nat_lt, length, refl, sym, ap, ◌∙◌, arith, inl, inr}
use Rattle.std.specs.Prelude.{bytes_eq, find, position, ◌⊎◌}
use Rattle.std.specs.List.{slice_get, position_or_len}
use Rattle.std.specs.Option.{option_or}
use Rattle.std.proofs.lemmas.Bool.{eqb-true, eq-eqb}
use Rattle.std.proofs.lemmas.Bool.Decides.{nat_tests}
use Rattle.std.proofs.lemmas.List.Folds.{find_at}
use Rattle.std.proofs.lemmas.Option.{slice_get_past}
use Rattle.std.proofs.lemmas.Slice.Eq.{bytes_eq-Decides}
use Rattle.sgml_dtd.specs.attr.declared.definition.Definition.{Definition}
use Rattle.sgml_dtd.specs.attr.declared.value.AttrValue.{AttrValue}
use Rattle.sgml_dtd.specs.attr.Currents.{current_at}
use Rattle.sgml_dtd.specs.dtd_attlists.Tables.{list_of}
use Rattle.sgml_dtd.specs.Doctypes.{Doctype, definitions_at}
use Rattle.sgml_theory_reading.specs.Names.{Name}
use Rattle.sgml_theory_reading.specs.Types.{attributes, definition_of, default_is, has_same_list, same_number, has_current, is_current_default}
use Rattle.sgml_theory_reading.specs.Pieces.{Start, How, Specification}
use Rattle.sgml_theory_reading.specs.Facets.{specified}
use Rattle.sgml_theory_reading.specs.Currents.{Currents, value_in, given, currents, currents_after, definition_number, value_by, AreCurrents, IsGiven}

abbrev Table : Type 0
Table = List (List (Option AttrValue))

no-value : (l i : ℕ) → current_at [] l i ≡ None
no-value zero i = refl
no-value (suc l) i = refl

none-by : (l i : Option ℕ) → None ≡ value_by [] l i
none-by None i = refl
none-by (Some l) None = refl
none-by (Some l) (Some i) = sym (no-value l i)

pub none-current : (d : Doctype) → AreCurrents d [] (currents [])
unfolding currents
none-current d n a = none-by (list_of d.lists n) (definition_number d n a)

-- THE FIRST THAT PASSES A TEST, and its number

within-some : (xs : List Definition) (i : ℕ) → i < length xs → (x : Definition) × (slice_get xs i ≡ Some x)
within-some [] i h = absurd (omega arith)
within-some (x ∷ xs) zero h = (x, refl)
within-some (x ∷ xs) (suc i) h = within-some xs i (below h)
  where
    below : {m n : ℕ} → suc m < suc n → m < n
    below h = omega arith

below-of : (m n : ℕ) → nat_lt m n ≡ true → m < n
below-of m n e = grind (arith, nat_tests)

above-of : (m n : ℕ) → nat_lt m n ≡ false → n ≤ m
above-of m n e = grind (arith, nat_tests)

module _ (test : Definition → Bool) where
  pub record Found (xs : List Definition) : Type 0 where
    pub number : ℕ
    pub definition : Definition
    pub at : position test xs ≡ Some number
    pub stands : slice_get xs number ≡ Some definition
    pub is_first : find test xs ≡ Some definition

  pub record NoneFound (xs : List Definition) : Type 0 where
    pub nowhere : position test xs ≡ None
    pub none : find test xs ≡ None

  pub placed : (xs : List Definition) → Found xs ⊎ NoneFound xs
  placed xs = go (nat_lt (position_or_len test xs) (length xs)) refl
    where
      go : (b : Bool) → nat_lt (position_or_len test xs) (length xs) ≡ b → Found xs ⊎ NoneFound xs
      go true e =
          let w = within-some xs (position_or_len test xs) (below-of _ _ e) in
          inl (record {
            number = position_or_len test xs;
            definition = w.0;
            at = ap (λ (b : Bool). cond b (Some (position_or_len test xs)) None) e;
            stands = w.1;
            is_first = find_at test xs ∙ w.1;
          })
      go false e = inr (record {
        nowhere = ap (λ (b : Bool). cond b (Some (position_or_len test xs)) None) e;
        none = find_at test xs ∙ slice_get_past xs (position_or_len test xs) (above-of _ _ e);
      })

  passes-here : (b : Bool) (y x : Definition) (r : Option Definition) → test y ≡ b → (r ≡ Some x → test x ≡ true) → cond b (Some y) r ≡ Some x → test x ≡ true
  passes-here true y x r e back h = let f : y ≡ x = cc in ap test (sym f) ∙ e
  passes-here false y x r e back h = back h

  pub passes : (xs : List Definition) (x : Definition) → find test xs ≡ Some x → test x ≡ true
  passes [] x h = absurd (cc)
  passes (y ∷ ys) x h = passes-here (test y) y x (find test ys) refl (passes ys x) h

-- A START
module _ (d : Doctype) (n : Name) (ss : List Specification) (old new : Table) (c : Currents) (are : AreCurrents d old c) (given_it : IsGiven d n ss old new) (e a : Name) where
  abbrev named : Definition → Bool
  named x = bytes_eq a x.name

  abbrev goes : Option ℕ → Option ℕ → Option AttrValue
  goes ln le = option_or (if same_number ln le && has_current d n a then value_in d (definition_of d n a) a ss else None) (c e a)

  kept : (le : Option ℕ) → ((m : ℕ) → le ≡ Some m → list_of d.lists n ≡ Some m → ⊥) → (i : Option ℕ) → value_by old le i ≡ value_by new le i
  kept None h i = refl
  kept (Some m) h None = refl
  kept (Some m) h (Some i) = sym (given_it.elsewhere m i (h m refl))

  was : (le : Option ℕ) → list_of d.lists e ≡ le → c e a ≡ value_by old le (definition_number d e a)
  was le q = are e a ∙ ap (λ o. value_by old o (definition_number d e a)) q

  same-attributes : (l : ℕ) → list_of d.lists n ≡ Some l → list_of d.lists e ≡ Some l → attributes d e ≡ attributes d n
  unfolding attributes
  same-attributes l p q = ap (definitions_at d.lists) (q ∙ sym p)

  in-list : (l : ℕ) → list_of d.lists n ≡ Some l → list_of d.lists e ≡ Some l → Found named (attributes d n) ⊎ NoneFound named (attributes d n) →
      option_or (if true && has_current d n a then value_in d (definition_of d n a) a ss else None) (c e a) ≡ value_by new (Some l) (definition_number d e a)
  unfolding has_current
  in-list l p q (inr w) =
      let num : definition_number d e a ≡ None = ap (position named) (same-attributes l p q) ∙ w.nowhere in
      (λ i. option_or (if true && default_is is_current_default (w.none i) then value_in d (w.none i) a ss else None) ((was (Some l) q ∙ ap (value_by old (Some l)) num) i))
      ∙ sym (ap (value_by new (Some l)) num)
  in-list l p q (inl w) =
      let num : definition_number d e a ≡ Some w.number = ap (position named) (same-attributes l p q) ∙ w.at in
      let x = w.definition in
      let name : a ≡ x.name = (bytes_eq-Decides a x.name).0 (passes named (attributes d n) x w.is_first) in
      (λ i. option_or (if true && default_is is_current_default (w.is_first i) then value_in d (w.is_first i) a ss else None) ((was (Some l) q ∙ ap (value_by old (Some l)) num) i))
      ∙ ((λ i. option_or (if is_current_default x.default then value_in d (Some x) (name i) ss else None) (current_at old l w.number))
      ∙ (sym (given_it.here l w.number x p w.stands) ∙ sym (ap (value_by new (Some l)) num)))

  by-lists : (ln le : Option ℕ) → list_of d.lists n ≡ ln → list_of d.lists e ≡ le → goes ln le ≡ value_by new le (definition_number d e a)
  by-lists None le p q = was le q ∙ kept le (λ m g h. let z : None ≡ Some m = sym p ∙ h in cc) (definition_number d e a)
  by-lists (Some l) None p q = was None q ∙ kept None (λ m g h. cc) (definition_number d e a)
  by-lists (Some l) (Some m) p q = same (l == m) refl
    where
      same : (b : Bool) → (l == m) ≡ b → goes (Some l) (Some m) ≡ value_by new (Some m) (definition_number d e a)
      same false h =
          ap (λ (b : Bool). option_or (if b && has_current d n a then value_in d (definition_of d n a) a ss else None) (c e a)) h
          ∙ (was (Some m) q ∙ kept (Some m) apart (definition_number d e a))
        where
          apart : (k : ℕ) → Some m ≡ Some k → list_of d.lists n ≡ Some k → ⊥
          apart k g r =
              let mk : m ≡ k = cc in
              let z : Some l ≡ Some k = sym p ∙ r in
              let lk : l ≡ k = cc in
              let t : true ≡ false = sym (eq-eqb l m (lk ∙ sym mk)) ∙ h in
              cc
      same true h =
          let lm : l ≡ m = eqb-true l m h in
          let q' : list_of d.lists e ≡ Some l = q ∙ ap Some (sym lm) in
          ap (λ (b : Bool). option_or (if b && has_current d n a then value_in d (definition_of d n a) a ss else None) (c e a)) h
          ∙ (in-list l p q' (placed named (attributes d n)) ∙ ap (λ (k : ℕ). value_by new (Some k) (definition_number d e a)) lm)

given-is : (d : Doctype) (n : Name) (ss : List Specification) (e a : Name) (v : Option AttrValue) →
    option_or (given d (Some (n, ss)) e a) v ≡ option_or (if same_number (list_of d.lists n) (list_of d.lists e) && has_current d n a then value_in d (definition_of d n a) a ss else None) v
unfolding has_same_list
given-is d n ss e a v = refl

after-start : (d : Doctype) (n : Name) (ss : List Specification) (how : How) (proper at_once : Bool) (c : Currents) (e a : Name) →
    currents_after d (Start n ss how proper at_once) c e a ≡ option_or (given d (Some (n, ss)) e a) (c e a)
unfolding specified
after-start d n ss how proper at_once c e a = refl

pub start-given : (d : Doctype) (n : Name) (ss : List Specification) (how : How) (proper at_once : Bool) (old new : Table) (c : Currents) →
    AreCurrents d old c → IsGiven d n ss old new → AreCurrents d new (currents_after d (Start n ss how proper at_once) c)
start-given d n ss how proper at_once old new c are given_it e a =
    after-start d n ss how proper at_once c e a
    ∙ (given-is d n ss e a (c e a) ∙ by-lists d n ss old new c are given_it e a (list_of d.lists n) (list_of d.lists e) refl refl)
