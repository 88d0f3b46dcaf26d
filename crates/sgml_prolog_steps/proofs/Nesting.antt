-- How the open sections stand, which are kept with the oldest first.
use Rattle.std.proofs.Common.{◌≡◌, ℕ, zero, suc, Bool, true, false, ◌||◌, ◌==◌, List, [], ◌∷◌, ◌++◌, ◌≤◌, ◌<◌, refl, sym, ◌∙◌, ap, if◌then◌else◌, arith, rules, tests}
use Rattle.std.specs.Prelude.{pred, reverse}
use Rattle.std.specs.List.{list_any}
use Rattle.std.proofs.lemmas.List.{reverse-append, reverse-reverse}
use Rattle.std.proofs.lemmas.List.Folds.{list_any-append}
use Rattle.sgml_marked.specs.declared.sections.Section.{Section}
use Rattle.sgml_marked.specs.Opened.{is_at, is_open_at, without_last}
use Rattle.sgml_declared.specs.theory_reading.Nest.{without_first}
use Rattle.sgml_declared.specs.theory_spelling.Places.{in_section}
use Rattle.sgml_declared.specs.theory_spelling.Nested.{AreNested}
use Rattle.sgml_declared.proofs.theory_spelling.Growing.{not-equal}

below : (a n : ℕ) → a ≤ n → (a == n) ≡ false → a < n
below a n l e = search (rules, tests)

none-open : (n m : ℕ) (ss : List Section) → m < n → AreNested m ss → is_open_at n ss ≡ false
none-open n m [] l a = refl
none-open n m (s ∷ ss) l a =
    let here : s.level < n = omega (arith, l, a.0) in
    ap (λ t. t || is_open_at n ss) (not-equal s.level n here) ∙ none-open n s.level ss here a.1

innermost : (n : ℕ) (ss : List Section) → AreNested n ss → in_section n ss ≡ is_open_at n ss
innermost n [] a = refl
innermost n (s ∷ ss) a = by (s.level == n) refl
  where
    by : (t : Bool) → (s.level == n) ≡ t → (s.level == n) ≡ ((s.level == n) || is_open_at n ss)
    by true e = e ∙ sym (ap (λ t. t || is_open_at n ss) e)
    by false e = e ∙ sym (ap (λ t. t || is_open_at n ss) e ∙ none-open n s.level ss (below s.level n a.0 e) a.1)

swapped : (a b : Bool) → (a || (b || false)) ≡ (b || a)
swapped true true = refl
swapped true false = refl
swapped false true = refl
swapped false false = refl

any-reverse : (p : Section → Bool) (ss : List Section) → list_any p (reverse ss) ≡ list_any p ss
any-reverse p [] = refl
any-reverse p (s ∷ ss) =
    ap (list_any p) (reverse-append (s ∷ []) ss)
    ∙ (list_any-append p (reverse ss) (s ∷ []) ∙ (ap (λ t. t || (p s || false)) (any-reverse p ss) ∙ swapped (list_any p ss) (p s)))

-- one is open that began in the text at the top
pub in-section : (n : ℕ) (ss : List Section) → AreNested n (reverse ss) → in_section n (reverse ss) ≡ is_open_at n ss
in-section n ss a = innermost n (reverse ss) a ∙ any-reverse _ ss

pub raised : (m n : ℕ) (ss : List Section) → m ≤ n → AreNested m ss → AreNested n ss
raised m n [] l a = tt
raised m n (s ∷ ss) l a = (omega (arith, l, a.0), a.1)

pub lowered : (n : ℕ) (ss : List Section) → AreNested n ss → in_section n ss ≡ false → AreNested (pred n) ss
lowered n [] a e = tt
lowered zero (s ∷ ss) a e = let l = below s.level zero a.0 e in absurd (omega (arith, l))
lowered (suc n) (s ∷ ss) a e = let l = below s.level (suc n) a.0 e in (omega (arith, l), a.1)

pub nested-ended : (n : ℕ) (ss : List Section) → AreNested n ss → AreNested n (without_first ss)
nested-ended n [] a = tt
nested-ended n (s ∷ ss) a = raised s.level n ss a.0 a.1

-- the last of its level is the innermost
or-true : (a b : Bool) → b ≡ true → (a || b) ≡ true
or-true true b e = refl
or-true false b e = e

open-at-end : (n : ℕ) (xs : List Section) (s : Section) → (s.level == n) ≡ true → is_open_at n (xs ++ s ∷ []) ≡ true
open-at-end n [] s e = ap (λ t. t || false) e
open-at-end n (x ∷ xs) s e = or-true (x.level == n) _ (open-at-end n xs s e)

last-at-end : (n : ℕ) (xs : List Section) (s : Section) → (s.level == n) ≡ true → without_last n (xs ++ s ∷ []) ≡ xs
last-at-end n [] s e = ap (λ t. if t then [] else s ∷ []) e
last-at-end n (x ∷ xs) s e =
    ap (λ t. if t then x ∷ without_last n (xs ++ s ∷ []) else if is_at n x then xs ++ s ∷ [] else x ∷ without_last n (xs ++ s ∷ [])) (open-at-end n xs s e)
    ∙ ap (λ ys. x ∷ ys) (last-at-end n xs s e)

last-of-reversed : (n : ℕ) (ss : List Section) → in_section n ss ≡ true → without_last n (reverse ss) ≡ reverse (without_first ss)
last-of-reversed n [] e = refl
last-of-reversed n (s ∷ ss) e = ap (without_last n) (reverse-append (s ∷ []) ss) ∙ last-at-end n (reverse ss) s e

pub last-ended : (n : ℕ) (ss : List Section) → in_section n (reverse ss) ≡ true → without_last n ss ≡ reverse (without_first (reverse ss))
last-ended n ss e = ap (without_last n) (sym (reverse-reverse ss)) ∙ last-of-reversed n (reverse ss) e
