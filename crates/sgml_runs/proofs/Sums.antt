-- Sums over lists that change at one place, and how often numbers stand in lists.
use Rattle.std.proofs.Common.{◌≡◌, ℕ, zero, suc, ◌+◌, ◌<◌, ◌≤◌, ◌≢◌, List, [], ◌∷◌, ◌++◌, length, set, sym, refl, ap, arith, cond, eqb, eq-eqb, ne_eqb}
use mathlib.Core.Logic.{dite}
use native.Mathlib.Decide.{ℕ_discrete, dec_le}
use mathlib.Core.Option.{some, some-injective, some-ne-none}
use lib.ListN.{get_elem?}
use Rattle.sgml_runs.specs.declared.view.View.{View}
use Rattle.sgml_runs.specs.Counts.{times, total, after_first}

pub times-here : (k x : ℕ) (xs : List ℕ) → x ≡ k → times k (x ∷ xs) ≡ 1 + times k xs
times-here k x xs e = ap (λ b. cond b 1 0 + times k xs) (eq-eqb x k e)

pub times-else : (k x : ℕ) (xs : List ℕ) → x ≢ k → times k (x ∷ xs) ≡ times k xs
times-else k x xs n = omega (arith, ap {B = ℕ} (λ b. cond b 1 0) (ne_eqb x k n))

pub times-append : (k : ℕ) (xs ys : List ℕ) → times k (xs ++ ys) ≡ times k xs + times k ys
times-append k [] ys = omega arith
times-append k (x ∷ xs) ys = let b : ℕ = cond (eqb x k) 1 0 in let h = times-append k xs ys in let g : b + times k (xs ++ ys) ≡ b + times k xs + times k ys = omega arith in g

-- the elements that are below n
abbrev below : ℕ → List ℕ → ℕ
below zero xs = 0
below (suc n) xs = below n xs + times n xs

below-nil : (n : ℕ) → below n [] ≡ 0
below-nil zero = refl
below-nil (suc n) = omega (arith, below-nil n)

below-later : (n x : ℕ) (xs : List ℕ) → n ≤ x → below n (x ∷ xs) ≡ below n xs
below-later zero x xs h = refl
below-later (suc n) x xs h = omega (arith, below-later n x xs (omega arith), times-else n x xs (λ e. omega arith))

below-cons : (n x : ℕ) (xs : List ℕ) → x < n → below n (x ∷ xs) ≡ 1 + below n xs
below-cons zero x xs h = absurd (omega arith)
below-cons (suc n) x xs h = dite (ℕ_discrete x n) (λ e. omega (arith, below-later n x xs (omega arith), times-here n x xs e))
    (λ ne. omega (arith, below-cons n x xs (omega arith), times-else n x xs ne))

below-length : (n : ℕ) (xs : List ℕ) → ((k : ℕ) → n ≤ k → times k xs ≡ 0) → below n xs ≡ length xs
below-length n [] h = below-nil n
below-length n (x ∷ xs) h = dite (dec_le n x) (λ le. absurd (omega (arith, h x le, times-here x x xs refl)))
    (λ lt. omega (arith, below-cons n x xs (omega arith), below-length n xs (λ k le. omega (arith, h k le, times-else k x xs (λ e. omega arith)))))

below-once : (n : ℕ) (xs : List ℕ) → ((k : ℕ) → times k xs ≤ 1) → below n xs ≤ n
below-once zero xs h = omega arith
below-once (suc n) xs h = omega (arith, below-once n xs h, h n)

-- a list of numbers below n, each once, has at most n
pub fits : (n : ℕ) (xs : List ℕ) → ((k : ℕ) → times k xs ≤ 1) → ((k : ℕ) → n ≤ k → times k xs ≡ 0) → length xs ≤ n
fits n xs one none = omega (arith, below-length n xs none, below-once n xs one)

pub after : (xs : List ℕ) (r : ℕ) → ((k : ℕ) → r ≤ k → times k xs ≡ 0) → after_first xs ≤ r
after [] r h = omega arith
after (x ∷ xs) r h = dite (dec_le r x) (λ le. absurd (omega (arith, h x le, times-here x x xs refl))) (λ lt. omega arith)

module _ {T : Type 0} (g : View T → ℕ) where
  pub total-append : (l m : List (View T)) → total g (l ++ m) ≡ total g l + total g m
  total-append [] m = omega arith
  total-append (x ∷ xs) m = omega (arith, total-append xs m)

  pub total-set : (l : List (View T)) (j : ℕ) (v w : View T) → get_elem? l j ≡ some v → total g (set l j w) + g v ≡ total g l + g w
  total-set [] j v w e = absurd (some-ne-none v (sym e))
  total-set (x ∷ xs) zero v w e = omega (arith, ap g (some-injective x v e))
  total-set (x ∷ xs) (suc j) v w e = omega (arith, total-set xs j v w e)

  pub term_le : (l : List (View T)) (j : ℕ) (v : View T) → get_elem? l j ≡ some v → g v ≤ total g l
  term_le [] j v e = absurd (some-ne-none v (sym e))
  term_le (x ∷ xs) zero v e = omega (arith, ap g (some-injective x v e))
  term_le (x ∷ xs) (suc j) v e = omega (arith, term_le xs j v e)

  pub terms_le : (l : List (View T)) (j k : ℕ) (v u : View T) → k ≢ j → get_elem? l j ≡ some v → get_elem? l k ≡ some u → g v + g u ≤ total g l
  terms_le [] j k v u n e d = absurd (some-ne-none v (sym e))
  terms_le (x ∷ xs) zero zero v u n e d = absurd (n refl)
  terms_le (x ∷ xs) zero (suc k) v u n e d = omega (arith, ap g (some-injective x v e), term_le xs k u d)
  terms_le (x ∷ xs) (suc j) zero v u n e d = omega (arith, ap g (some-injective x u d), term_le xs j v e)
  terms_le (x ∷ xs) (suc j) (suc k) v u n e d = omega (arith, terms_le xs j k v u (λ h. n (ap suc h)) e d)

  none : (l : List (View T)) → ((k : ℕ) (u : View T) → get_elem? l k ≡ some u → g u ≡ 0) → total g l ≡ 0
  none [] h = refl
  none (x ∷ xs) h = omega (arith, h 0 x refl, none xs (λ k u e. h (suc k) u e))

  -- where g is 0 of all others
  pub only : (l : List (View T)) (j : ℕ) (v : View T) → get_elem? l j ≡ some v → ((k : ℕ) (u : View T) → k ≢ j → get_elem? l k ≡ some u → g u ≡ 0) → total g l ≡ g v
  only [] j v e h = absurd (some-ne-none v (sym e))
  only (x ∷ xs) zero v e h = omega (arith, ap g (some-injective x v e), none xs (λ k u d. h (suc k) u (λ z. omega arith) d))
  only (x ∷ xs) (suc j) v e h = omega (arith, h 0 x (λ z. omega arith) refl, only xs j v e (λ k u n d. h (suc k) u (λ z. n (omega arith)) d))

pub total-plus : {T : Type 0} → (f g : View T → ℕ) (l : List (View T)) → total (λ v. f v + g v) l ≡ total f l + total g l
total-plus f g [] = refl
total-plus f g (x ∷ xs) = omega (arith, total-plus f g xs)

pub total_le : {T : Type 0} → (f g : View T → ℕ) (l : List (View T)) → ((j : ℕ) (v : View T) → get_elem? l j ≡ some v → f v ≤ g v) → total f l ≤ total g l
total_le f g [] h = omega arith
total_le f g (x ∷ xs) h = omega (arith, h 0 x refl, total_le f g xs (λ j v e. h (suc j) v e))

-- what g has over f in one view it has over f in all
pub gap : {T : Type 0} → (f g : View T → ℕ) (l : List (View T)) (j : ℕ) (v : View T) → get_elem? l j ≡ some v → ((k : ℕ) (u : View T) → get_elem? l k ≡ some u → f u ≤ g u) → total f l + g v ≤ total g l + f v
gap f g [] j v e h = absurd (some-ne-none v (sym e))
gap f g (x ∷ xs) zero v e h = omega (arith, ap f (some-injective x v e), ap g (some-injective x v e), total_le f g xs (λ k u d. h (suc k) u d))
gap f g (x ∷ xs) (suc j) v e h = omega (arith, h 0 x refl, gap f g xs j v e (λ k u d. h (suc k) u d))
