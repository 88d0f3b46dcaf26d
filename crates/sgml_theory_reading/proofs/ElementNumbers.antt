-- Element types by their number and by their name.
use Rattle.std.proofs.Common.{◌≡◌, ℕ, zero, suc, ◌+◌, ◌<◌, ◌==◌, Bool, true, false, cond, ◌||◌, List, [], ◌∷◌, ◌++◌, Option, Some, is_some, length, refl, sym, ap, ◌∙◌, subst, arith}
use Rattle.std.specs.List.{slice_get}
use Rattle.std.specs.Str.{bytes_eq}
use Rattle.std.proofs.lemmas.Bool.{or_parts, cond-true, cond-false, eqb-true}
use Rattle.std.proofs.lemmas.Bool.Decides.{nat_tests}
use Rattle.std.proofs.lemmas.Slice.Eq.{bytes_eq-Decides}
use Rattle.sgml_dtd.proofs.names.Repeating.{has-append}
use Rattle.sgml_dtd.specs.names.Lists.{has, number_from, repeats}
use Rattle.sgml_dtd.specs.decl_forms.declared.element.ElementDeclaration.{ElementDeclaration}
use Rattle.sgml_dtd.specs.dtd_elements.Types.{ElementType, types, names, number_of}
use Rattle.sgml_dtd.specs.dtd_elements.Laws.{AreDistinct}
use Rattle.sgml_dtd.proofs.dtd_elements.OneDeclaration.{new_name}
use Rattle.sgml_theory_reading.specs.Names.{Name}
use Rattle.sgml_theory_reading.proofs.FirstDeclared.{named}

pub same-bytes : (m n : Name) → bytes_eq m n ≡ true → m ≡ n
same-bytes m n e = (bytes_eq-Decides m n).0 e

pub own-bytes : (n : Name) → bytes_eq n n ≡ true
own-bytes n = (bytes_eq-Decides n n).1 refl

or-right : (a b : Bool) → (a || b) ≡ false → b ≡ false
or-right a b h = (or_parts a b h).1

or-left : (a b : Bool) → (a || b) ≡ false → a ≡ false
or-left a b h = (or_parts a b h).0

-- the name of what stands in a list is one of its names
has-at : (ts : List ElementType) (i : ℕ) (e : ElementType) → slice_get ts i ≡ Some e → has (names ts) e.name ≡ true
has-at [] zero e g = cc
has-at [] (suc i) e g = cc
has-at (t ∷ ts) zero e g =
    let f : t ≡ e = cc in
    ap (λ b. b || has (names ts) e.name) (ap (λ (x : ElementType). bytes_eq e.name x.name) f ∙ own-bytes e.name)
has-at (t ∷ ts) (suc i) e g = ap (λ b. bytes_eq e.name t.name || b) (has-at ts i e g) ∙ or-true (bytes_eq e.name t.name)
  where
    or-true : (b : Bool) → (b || true) ≡ true
    or-true true = refl
    or-true false = refl

-- where no name stands twice, what stands behind has another name
apart : (t : ElementType) (ts : List ElementType) (before : List Name) (i : ℕ) (e : ElementType) → repeats before (names (t ∷ ts)) ≡ false → slice_get ts i ≡ Some e → bytes_eq e.name t.name ≡ false
apart t ts before i e h g =
    let behind = or-right (has before t.name) (repeats (before ++ t.name ∷ []) (names ts)) h in
    let none = new_name (before ++ t.name ∷ []) (names ts) e.name behind (has-at ts i e g) in
    or-left (bytes_eq e.name t.name) false (or-right (has before e.name) (has (t.name ∷ []) e.name) (sym (has-append before (t.name ∷ []) e.name) ∙ none))

named-in : (ts : List ElementType) (before : List Name) (i : ℕ) (e : ElementType) → repeats before (names ts) ≡ false → slice_get ts i ≡ Some e → named e.name ts ≡ Some e
named-in [] before zero e h g = cc
named-in [] before (suc i) e h g = cc
named-in (t ∷ ts) before zero e h g =
    let f : t ≡ e = cc in
    cond-true (bytes_eq e.name t.name) (Some t) (named e.name ts) (ap (λ (x : ElementType). bytes_eq e.name x.name) f ∙ own-bytes e.name) ∙ ap Some f
named-in (t ∷ ts) before (suc i) e h g =
    cond-false (bytes_eq e.name t.name) (Some t) (named e.name ts) (apart t ts before i e h g)
    ∙ named-in ts (before ++ t.name ∷ []) i e (or-right (has before t.name) (repeats (before ++ t.name ∷ []) (names ts)) h) g

numbered-in : (ts : List ElementType) (before : List Name) (k i : ℕ) (e : ElementType) → repeats before (names ts) ≡ false → slice_get ts i ≡ Some e → number_from k (names ts) e.name ≡ Some (k + i)
numbered-in [] before k zero e h g = cc
numbered-in [] before k (suc i) e h g = cc
numbered-in (t ∷ ts) before k zero e h g =
    let f : t ≡ e = cc in
    let z : k ≡ k + 0 = omega arith in
    cond-true (bytes_eq e.name t.name) (Some k) (number_from (k + 1) (names ts) e.name) (ap (λ (x : ElementType). bytes_eq e.name x.name) f ∙ own-bytes e.name) ∙ ap Some z
numbered-in (t ∷ ts) before k (suc i) e h g =
    let z : k + 1 + i ≡ k + suc i = omega arith in
    cond-false (bytes_eq e.name t.name) (Some k) (number_from (k + 1) (names ts) e.name) (apart t ts before i e h g)
    ∙ numbered-in ts (before ++ t.name ∷ []) (k + 1) i e (or-right (has before t.name) (repeats (before ++ t.name ∷ []) (names ts)) h) g
    ∙ ap Some z

-- what stands at a number is found by its name
pub named-at : (ds : List ElementDeclaration) (i : ℕ) (e : ElementType) → AreDistinct ds → slice_get (types ds) i ≡ Some e → named e.name (types ds) ≡ Some e
named-at ds i e h g = named-in (types ds) [] i e h g

pub number-at : (ds : List ElementDeclaration) (i : ℕ) (e : ElementType) → AreDistinct ds → slice_get (types ds) i ≡ Some e → number_of ds e.name ≡ Some i
number-at ds i e h g =
    let z : 0 + i ≡ i = omega arith in
    numbered-in (types ds) [] 0 i e h g ∙ ap Some z

-- a name has a number where it is declared
some-here : (b : Bool) (k : ℕ) (t : ElementType) (o : Option ℕ) (r : Option ElementType) → is_some o ≡ is_some r → is_some (cond b (Some k) o) ≡ is_some (cond b (Some t) r)
some-here true k t o r h = refl
some-here false k t o r h = h

numbered-named : (ts : List ElementType) (k : ℕ) (n : Name) → is_some (number_from k (names ts) n) ≡ is_some (named n ts)
numbered-named [] k n = refl
numbered-named (t ∷ ts) k n = some-here (bytes_eq n t.name) k t (number_from (k + 1) (names ts) n) (named n ts) (numbered-named ts (k + 1) n)

pub number-named : (ds : List ElementDeclaration) (n : Name) → is_some (number_of ds n) ≡ is_some (named n (types ds))
number-named ds n = numbered-named (types ds) 0 n

-- at the number of a name stands an element type of this name
pub record IsAt (ts : List ElementType) (n : Name) (i : ℕ) : Type 0 where
  pub type : ElementType
  pub stands : slice_get ts i ≡ Some type
  pub name : type.name ≡ n

stands-here : (b : Bool) (t : ElementType) (ts : List ElementType) (k j : ℕ) (n : Name) → bytes_eq n t.name ≡ b → (number_from (k + 1) (names ts) n ≡ Some j → (i : ℕ) × (j ≡ k + 1 + i) × IsAt ts n i) →
    cond b (Some k) (number_from (k + 1) (names ts) n) ≡ Some j → (i : ℕ) × (j ≡ k + i) × IsAt (t ∷ ts) n i
stands-here true t ts k j n e rest g =
    let f : k ≡ j = cc in
    (0, omega arith, record { type = t; stands = refl; name = sym (same-bytes n t.name e) })
stands-here false t ts k j n e rest g =
    let r = rest g in
    let f : j ≡ k + 1 + r.0 = r.1 in
    (suc r.0, omega arith, record { type = r.2.type; stands = r.2.stands; name = r.2.name })

stands-in : (ts : List ElementType) (k j : ℕ) (n : Name) → number_from k (names ts) n ≡ Some j → (i : ℕ) × (j ≡ k + i) × IsAt ts n i
stands-in [] k j n h = cc
stands-in (t ∷ ts) k j n h = stands-here (bytes_eq n t.name) t ts k j n refl (λ g. stands-in ts (k + 1) j n g) h

pub stands-at : (ds : List ElementDeclaration) (n : Name) (i : ℕ) → number_of ds n ≡ Some i → IsAt (types ds) n i
stands-at ds n i h =
    let r = stands-in (types ds) 0 i n h in
    let f : r.0 ≡ i = omega (arith, r.1) in
    subst (λ j. IsAt (types ds) n j) f r.2

-- a number below the length has an element type
pub found-at : (ts : List ElementType) (i : ℕ) → i < length ts → (e : ElementType) × (slice_get ts i ≡ Some e)
found-at [] i h = absurd (omega arith)
found-at (t ∷ ts) zero h = (t, refl)
found-at (t ∷ ts) (suc i) h = found-at ts i (below h)
  where
    below : {m n : ℕ} → suc m < suc n → m < n
    below h = omega arith

-- one name has one number
pub one-number : (ds : List ElementDeclaration) (i j : ℕ) (e f : ElementType) → AreDistinct ds → slice_get (types ds) i ≡ Some e → slice_get (types ds) j ≡ Some f → bytes_eq e.name f.name ≡ (i == j)
one-number ds i j e f h p q = names-agree (bytes_eq e.name f.name) refl (i == j) refl
  where
    names-agree : (b : Bool) → bytes_eq e.name f.name ≡ b → (c : Bool) → (i == j) ≡ c → b ≡ c
    names-agree true x true y = refl
    names-agree false x false y = refl
    names-agree true x false y =
        let s : Some i ≡ Some j = sym (number-at ds i e h p) ∙ (ap (number_of ds) (same-bytes e.name f.name x) ∙ number-at ds j f h q) in
        let z : i ≡ j = cc in
        absurd (different i j z y)
      where
        different : (i j : ℕ) → i ≡ j → (i == j) ≡ false → ⊥
        different i j z y = grind (arith, nat_tests)
    names-agree false x true y =
        let z : i ≡ j = eqb-true i j y in
        let s : Some e ≡ Some f = sym p ∙ (ap (slice_get (types ds)) z ∙ q) in
        let w : e ≡ f = cc in
        absurd (let v : false ≡ true = sym x ∙ (ap (λ (g : ElementType). bytes_eq e.name g.name) (sym w) ∙ own-bytes e.name) in cc)
