-- A name that repeats another stands at two places.
use Rattle.std.proofs.Common.{◌≡◌, ◌<◌, ◌⊎◌, inl, inr, ℕ, zero, suc, Bool, true, false, ◌||◌, List, [], ◌∷◌, ◌++◌, Some, refl, sym, ap, ◌∙◌, arith}
use Rattle.std.specs.Prelude.{slice_get}
use Rattle.std.specs.Str.{bytes_eq}
use Rattle.std.proofs.lemmas.Slice.Eq.{bytes_eq-Decides}
use Rattle.sgml_names.specs.Lists.{has}
use Rattle.sgml_names.specs.Lists.{repeats}
use Rattle.sgml_names.specs.Lists.{StandsTwice}
use Rattle.sgml_names.proofs.Repeating.{has-append}

pub or_left : (x y : Bool) → x ≡ true → (x || y) ≡ true
or_left x y e = ap (λ (b : Bool). b || y) e

pub or_right : (x y : Bool) → y ≡ true → (x || y) ≡ true
or_right true y e = refl
or_right false y e = e

pub same_name : (a b : List ℕ) → bytes_eq a b ≡ true → a ≡ b
same_name a b e = (bytes_eq-Decides a b).0 e

pub itself : (a : List ℕ) → bytes_eq a a ≡ true
itself a = (bytes_eq-Decides a a).1 refl

pub has_left : (a b : List (List ℕ)) (q : List ℕ) → has a q ≡ true → has (a ++ b) q ≡ true
has_left a b q e = has-append a b q ∙ or_left (has a q) (has b q) e

pub has_last : (a : List (List ℕ)) (q : List ℕ) → has (a ++ q ∷ []) q ≡ true
has_last a q = has-append a (q ∷ []) q ∙ or_right (has a q) (bytes_eq q q || false) (or_left (bytes_eq q q) false (itself q))

-- a name that is one of those before and one of these repeats
hit_here : (b : Bool) (before : List (List ℕ)) (n : List ℕ) (ns : List (List ℕ)) (q : List ℕ) → bytes_eq q n ≡ b → (b || has ns q) ≡ true → has before q ≡ true
    → (has ns q ≡ true → repeats (before ++ n ∷ []) ns ≡ true) → (has before n || repeats (before ++ n ∷ []) ns) ≡ true
hit_here true before n ns q is e h again = or_left (has before n) (repeats (before ++ n ∷ []) ns) (ap (has before) (sym (same_name q n is)) ∙ h)
hit_here false before n ns q is e h again = or_right (has before n) (repeats (before ++ n ∷ []) ns) (again e)

pub hit : (before ns : List (List ℕ)) (q : List ℕ) → has before q ≡ true → has ns q ≡ true → repeats before ns ≡ true
hit before [] q h e = cc
hit before (n ∷ ns) q h e = hit_here (bytes_eq q n) before n ns q refl e h (λ later. hit (before ++ n ∷ []) ns q (has_left before (n ∷ []) q h) later)

-- the name at a place is one of the names
pub has_at : (ns : List (List ℕ)) (k : ℕ) (q : List ℕ) → slice_get ns k ≡ Some q → has ns q ≡ true
has_at [] k q e = cc
has_at (n ∷ ns) zero q e =
    let same : n ≡ q = cc in
    or_left (bytes_eq q n) (has ns q) (ap (bytes_eq q) same ∙ itself q)
has_at (n ∷ ns) (suc k) q e = or_right (bytes_eq q n) (has ns q) (has_at ns k q e)

twice_from : (before ns : List (List ℕ)) (i j : ℕ) (q : List ℕ) → i < j → slice_get ns i ≡ Some q → slice_get ns j ≡ Some q → repeats before ns ≡ true
twice_from before [] i j q l e f = cc
twice_from before (n ∷ ns) i zero q l e f = absurd (omega arith)
twice_from before (n ∷ ns) zero (suc j) q l e f =
    let same : n ≡ q = cc in
    or_right (has before n) (repeats (before ++ n ∷ []) ns)
    (hit (before ++ n ∷ []) ns q (ap (λ (m : List ℕ). has (before ++ m ∷ []) q) same ∙ has_last before q) (has_at ns j q f))
twice_from before (n ∷ ns) (suc i) (suc j) q l e f =
    or_right (has before n) (repeats (before ++ n ∷ []) ns) (twice_from (before ++ n ∷ []) ns i j q (omega arith) e f)

pub twice-repeats : (ns : List (List ℕ)) → StandsTwice ns → repeats [] ns ≡ true
twice-repeats ns s = twice_from [] ns s.first s.second s.name s.before s.here s.again

-- a name of these that is one of those before
record Known (before ns : List (List ℕ)) : Type 0 where
  name : List ℕ
  place : ℕ
  stands : slice_get ns place ≡ Some name
  known : has before name ≡ true

place_here : (b : Bool) (n : List ℕ) (ns : List (List ℕ)) (q : List ℕ) → bytes_eq q n ≡ b → (b || has ns q) ≡ true → (has ns q ≡ true → (k : ℕ) × (slice_get ns k ≡ Some q)) → (k : ℕ) × (slice_get (n ∷ ns) k ≡ Some q)
place_here true n ns q is e again = (zero, ap (λ (m : List ℕ). Some m) (sym (same_name q n is)))
place_here false n ns q is e again = let later = again e in (suc later.0, later.1)

-- one of the names stands at a place
pub place_of : (ns : List (List ℕ)) (q : List ℕ) → has ns q ≡ true → (k : ℕ) × (slice_get ns k ≡ Some q)
place_of [] q e = cc
place_of (n ∷ ns) q e = place_here (bytes_eq q n) n ns q refl e (λ later. place_of ns q later)

moved : (n : List ℕ) (ns : List (List ℕ)) → StandsTwice ns → StandsTwice (n ∷ ns)
moved n ns s = record { name = s.name; first = suc s.first; second = suc s.second; before = let l : s.first < s.second = s.before in omega arith; here = s.here; again = s.again }

known_before : (b : Bool) (before : List (List ℕ)) (n : List ℕ) (ns : List (List ℕ)) (k : Known (before ++ n ∷ []) ns) → has before k.name ≡ b → Known before (n ∷ ns) ⊎ StandsTwice (n ∷ ns)
known_before true before n ns k is = inl (record { name = k.name; place = suc k.place; stands = k.stands; known = is })
known_before false before n ns k is =
    let last : (has before k.name || (bytes_eq k.name n || false)) ≡ true = sym (has-append before (n ∷ []) k.name) ∙ k.known in
    let equal : bytes_eq k.name n ≡ true = only_last (has before k.name) (bytes_eq k.name n) is last in
    inr (record { name = k.name; first = zero; second = suc k.place; before = omega arith; here = ap (λ (m : List ℕ). Some m) (sym (same_name k.name n equal)); again = k.stands })
  where
    only_last : (x y : Bool) → x ≡ false → (x || (y || false)) ≡ true → y ≡ true
    only_last x true p e = refl
    only_last true false p e = cc
    only_last false false p e = cc

known_here : (b : Bool) (before : List (List ℕ)) (n : List ℕ) (ns : List (List ℕ)) → has before n ≡ b → (b || repeats (before ++ n ∷ []) ns) ≡ true
    → (repeats (before ++ n ∷ []) ns ≡ true → Known (before ++ n ∷ []) ns ⊎ StandsTwice ns) → Known before (n ∷ ns) ⊎ StandsTwice (n ∷ ns)
known_here true before n ns is e again = inl (record { name = n; place = zero; stands = refl; known = is })
known_here false before n ns is e again = split (again e)
  where
    split : Known (before ++ n ∷ []) ns ⊎ StandsTwice ns → Known before (n ∷ ns) ⊎ StandsTwice (n ∷ ns)
    split (inl k) = known_before (has before k.name) before n ns k refl
    split (inr s) = inr (moved n ns s)

known_or_twice : (before ns : List (List ℕ)) → repeats before ns ≡ true → Known before ns ⊎ StandsTwice ns
known_or_twice before [] e = cc
known_or_twice before (n ∷ ns) e = known_here (has before n) before n ns refl e (λ later. known_or_twice (before ++ n ∷ []) ns later)

pub repeats-twice : (ns : List (List ℕ)) → repeats [] ns ≡ true → StandsTwice ns
repeats-twice ns e = split (known_or_twice [] ns e)
  where
    never : false ≡ true → StandsTwice ns
    never h = cc

    split : Known [] ns ⊎ StandsTwice ns → StandsTwice ns
    split (inl k) = never k.known
    split (inr s) = s
