-- Lists of definitions and of specifications, by their names.
use Rattle.std.proofs.Common.{◌≡◌, ℕ, zero, suc, Bool, true, false, ◌||◌, List, [], ◌∷◌, ◌++◌, map, bytes_eq, Option, Some, None, option_and_then, find, refl, sym, ap, subst, ◌∙◌, if◌then◌else◌, arith}
use Rattle.std.specs.List.{list_any, slice_get}
use Rattle.std.proofs.lemmas.Bool.{eqb-true}
use Rattle.std.proofs.lemmas.Slice.Eq.{bytes_eq-Decides}
use Rattle.sgml_full.specs.attr.declared.definition.Definition.{Definition}
use Rattle.sgml_full.specs.dtd.Doctypes.{Doctype}
use Rattle.sgml_theory_starts.specs.theory_reading.Names.{Name}
use Rattle.sgml_theory_starts.specs.theory_reading.Types.{same_number}
use Rattle.sgml_theory_starts.specs.theory_reading.Pieces.{Specification}
use Rattle.sgml_theory_starts.specs.theory_reading.Currents.{is_of, value_written, value_in}
use Rattle.sgml_theory_starts.specs.theory_spelling.Named.{AreApart}

pub none-some : {A : Type 0} {X : Type 0} (x : X) → None ≡ Some x → A
none-some x h = absurd (never h)
  where
    never : None ≡ Some x → ⊥
    never h = cc

pub some-none : {A : Type 0} {X : Type 0} (x : X) → Some x ≡ None → A
some-none x h = absurd (never h)
  where
    never : Some x ≡ None → ⊥
    never h = cc

pub true-false : {A : Type 0} → true ≡ false → A
true-false h = absurd (never h)
  where
    never : true ≡ false → ⊥
    never h = cc

pub or-true : (t : Bool) → (t || true) ≡ true
or-true true = refl
or-true false = refl

pub same-by : (o p : Option ℕ) → same_number o p ≡ true → o ≡ p
same-by None p h = true-false (sym h)
same-by (Some i) None h = true-false (sym h)
same-by (Some i) (Some j) h = ap Some (eqb-true i j h)

pub same-bytes : (a : Name) → bytes_eq a a ≡ true
same-bytes a = (bytes_eq-Decides a a).1 refl

pub equal-names : (a b : Name) → bytes_eq a b ≡ true → a ≡ b
equal-names a b h = (bytes_eq-Decides a b).0 h

pub other-names : (a b : Name) → (a ≡ b → ⊥) → bytes_eq a b ≡ false
other-names a b h = by (bytes_eq a b) refl
  where
    by : (t : Bool) → bytes_eq a b ≡ t → t ≡ false
    by true e = absurd (h (equal-names a b e))
    by false e = refl

-- DEFINITIONS, each of which is so
abbrev pub AllOf : (Definition → Type 0) → List Definition → Type 0
AllOf P [] = Unit {0}
AllOf P (x ∷ xs) = P x × AllOf P xs

pub all-of : (P : Definition → Type 0) (xs : List Definition) → ((i : ℕ) (x : Definition) → slice_get xs i ≡ Some x → P x) → AllOf P xs
all-of P [] f = tt
all-of P (x ∷ xs) f = (f 0 x refl, all-of P xs (λ i y e. f (suc i) y e))

same-definition : (x y : Definition) → Some x ≡ Some y → x ≡ y
same-definition x y h = cc

pub one-of : (P : Definition → Type 0) (xs : List Definition) (i : ℕ) (x : Definition) → AllOf P xs → slice_get xs i ≡ Some x → P x
one-of P [] i x a h = none-some x h
one-of P (y ∷ ys) zero x a h = subst P (same-definition y x h) a.0
one-of P (y ∷ ys) (suc i) x a h = one-of P ys i x a.1 h

pub map-all : {B : Type 0} (f g : Definition → B) (xs : List Definition) → AllOf (λ x. f x ≡ g x) xs → map f xs ≡ map g xs
map-all f g [] a = refl
map-all f g (x ∷ xs) a = ap (λ b. b ∷ map f xs) a.0 ∙ ap (λ bs. g x ∷ bs) (map-all f g xs a.1)

-- with different names
abbrev pub Differs : Name → Definition → Type 0
Differs a y = bytes_eq a y.name ≡ false

abbrev pub Apart : List Definition → Type 0
Apart [] = Unit {0}
Apart (x ∷ xs) = AllOf (Differs x.name) xs × Apart xs

apart-tail : (y : Definition) (xs : List Definition) → AreApart (y ∷ xs) → AreApart xs
apart-tail y xs a i j u v e f g = let s : suc i ≡ suc j = a (suc i) (suc j) u v e f g in omega (arith, s)

pub are-apart : (xs : List Definition) → AreApart xs → Apart xs
are-apart [] a = tt
are-apart (x ∷ xs) a = (
  all-of (Differs x.name) xs (λ i y e. other-names x.name y.name (λ same. never i (a 0 (suc i) x y refl e same))),
  are-apart xs (apart-tail x xs a),
)
  where
    never : (i : ℕ) → 0 ≡ suc i → ⊥
    never i h = omega (arith, h)

-- the one that is found by a name
pub record Found (xs : List Definition) (a : Name) (x : Definition) : Type 0 where
  pub place : ℕ
  pub stands : slice_get xs place ≡ Some x
  pub named : a ≡ x.name

pub found-one : (xs : List Definition) (a : Name) (x : Definition) → find (λ (y : Definition). bytes_eq a y.name) xs ≡ Some x → Found xs a x
found-one [] a x h = none-some x h
found-one (y ∷ ys) a x h = by (bytes_eq a y.name) refl (found-one ys a x) h
  where
    by : (t : Bool) → bytes_eq a y.name ≡ t → (find (λ (z : Definition). bytes_eq a z.name) ys ≡ Some x → Found ys a x)
        → (if t then Some y else find (λ (z : Definition). bytes_eq a z.name) ys) ≡ Some x → Found (y ∷ ys) a x
    by true is later h =
        let s = same-definition y x h in
        record { place = 0; stands = h; named = equal-names a y.name is ∙ ap (λ (z : Definition). z.name) s }
    by false is later h = let f = later h in record { place = suc f.place; stands = f.stands; named = f.named }

pub found-apart : (xs : List Definition) (i : ℕ) (x : Definition) → Apart xs → slice_get xs i ≡ Some x → find (λ (y : Definition). bytes_eq x.name y.name) xs ≡ Some x
found-apart [] i x a h = none-some x h
found-apart (y ∷ ys) zero x a h =
    let s = same-definition y x h in
    ap (λ t. if t then Some y else find (λ (z : Definition). bytes_eq x.name z.name) ys) (ap (bytes_eq x.name) (ap (λ (z : Definition). z.name) s) ∙ same-bytes x.name) ∙ h
found-apart (y ∷ ys) (suc i) x a h =
    ap (λ t. if t then Some y else find (λ (z : Definition). bytes_eq x.name z.name) ys) (turned (one-of (Differs y.name) ys i x a.0 h)) ∙ found-apart ys i x a.1 h
  where
    turned : bytes_eq y.name x.name ≡ false → bytes_eq x.name y.name ≡ false
    turned e = other-names x.name y.name (λ same. true-false (sym (same-bytes y.name) ∙ ap (bytes_eq y.name) (sym same) ∙ e))

-- SPECIFICATIONS

pub none-in : (d : Doctype) (o : Option Definition) (a : Name) (ss : List Specification) → list_any (is_of a) ss ≡ false → value_in d o a ss ≡ None
none-in d o a [] h = refl
none-in d o a (s ∷ ss) h = by (is_of a s) (none-in d o a ss) h
  where
    by : (t : Bool) → (list_any (is_of a) ss ≡ false → value_in d o a ss ≡ None) → (t || list_any (is_of a) ss) ≡ false
        → (if t then value_written d o s.written else value_in d o a ss) ≡ None
    by true later h = true-false h
    by false later h = later h

pub none-before : (d : Doctype) (o : Option Definition) (a : Name) (ss ts : List Specification) → list_any (is_of a) ss ≡ false → value_in d o a (ss ++ ts) ≡ value_in d o a ts
none-before d o a [] ts h = refl
none-before d o a (s ∷ ss) ts h = by (is_of a s) (none-before d o a ss ts) h
  where
    by : (t : Bool) → (list_any (is_of a) ss ≡ false → value_in d o a (ss ++ ts) ≡ value_in d o a ts) → (t || list_any (is_of a) ss) ≡ false
        → (if t then value_written d o s.written else value_in d o a (ss ++ ts)) ≡ value_in d o a ts
    by true later h = true-false h
    by false later h = later h

pub none-found : (p : Specification → Bool) (ss : List Specification) → find p ss ≡ None → list_any p ss ≡ false
none-found p [] h = refl
none-found p (s ∷ ss) h = by (p s) (none-found p ss) h
  where
    by : (t : Bool) → (find p ss ≡ None → list_any p ss ≡ false) → (if t then Some s else find p ss) ≡ None → (t || list_any p ss) ≡ false
    by true later h = some-none s h
    by false later h = later h

pub any-found : (p q : Specification → Bool) (ss : List Specification) (s : Specification) → find p ss ≡ Some s → q s ≡ true → list_any q ss ≡ true
any-found p q [] s h k = none-some s h
any-found p q (u ∷ us) s h k = by (p u) (any-found p q us s) h
  where
    same : Some u ≡ Some s → u ≡ s
    same e = cc

    by : (t : Bool) → (find p us ≡ Some s → q s ≡ true → list_any q us ≡ true) → (if t then Some u else find p us) ≡ Some s → (q u || list_any q us) ≡ true
    by true later h = ap (λ t. t || list_any q us) (ap q (same h) ∙ k)
    by false later h = ap (λ t. q u || t) (later h k) ∙ or-true (q u)

pub first-value : (d : Doctype) (x : Definition) (ss : List Specification)
    → value_in d (Some x) x.name ss ≡ option_and_then (λ (s : Specification). value_written d (Some x) s.written) (find (is_of x.name) ss)
first-value d x [] = refl
first-value d x (s ∷ ss) = by (is_of x.name s) (first-value d x ss)
  where
    by : (t : Bool) → value_in d (Some x) x.name ss ≡ option_and_then (λ (s : Specification). value_written d (Some x) s.written) (find (is_of x.name) ss)
        → (if t then value_written d (Some x) s.written else value_in d (Some x) x.name ss)
        ≡ option_and_then (λ (s : Specification). value_written d (Some x) s.written) (if t then Some s else find (is_of x.name) ss)
    by true h = refl
    by false h = h

-- one that passes
pub found-some : (p : Specification → Bool) (ss : List Specification) → list_any p ss ≡ true → (s : Specification) × (find p ss ≡ Some s) × (p s ≡ true)
found-some p [] h = true-false (sym h)
found-some p (u ∷ us) h = by (p u) refl (found-some p us) h
  where
    by : (t : Bool) → p u ≡ t → (list_any p us ≡ true → (s : Specification) × (find p us ≡ Some s) × (p s ≡ true)) → (t || list_any p us) ≡ true
        → (s : Specification) × ((if t then Some u else find p us) ≡ Some s) × (p s ≡ true)
    by true is later h = (u, refl, is)
    by false is later h = later h
