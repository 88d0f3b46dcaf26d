-- Numbers that rise differ, in each order.
use Rattle.std.proofs.Common.{◌≡◌, ◌≤◌, ◌<◌, ◌+◌, ◌==◌, ℕ, Bool, true, false, cond, List, [], ◌∷◌, ◌++◌, refl, sym, ap, ◌∙◌, arith, nat_lt}
use Rattle.std.specs.List.{sum_by}
use Rattle.std.specs.List.Sorted.{IsPermutation}
use Rattle.std.proofs.lemmas.Bool.Decides.{Decides-eqb, nat_tests}
use Rattle.std.proofs.lemmas.List.Recursion.{is_sum_by}
use Rattle.std.proofs.lemmas.List.Sorted.{sum_by-IsPermutation}
use Rattle.sgml_hashes.specs.Hashes.{times, AllDiffer, rises_from, rises}

below_by : (n m k : ℕ) (ms : List ℕ) → n ≤ m → (n ≤ k → rises_from k ms ≡ true → times n ms ≡ 0) →
    (up same : Bool) → nat_lt m k ≡ up → (k == n) ≡ same → cond up (rises_from k ms) false ≡ true → times n (k ∷ ms) ≡ 0
below_by n m k ms low rest false same l e h = cc
below_by n m k ms low rest true true l e h = absurd (grind (arith, nat_tests))
below_by n m k ms low rest true false l e h =
    let above : n ≤ k = grind (arith, nat_tests) in
    omega (arith, ap (λ (b : Bool). cond {A = ℕ} b 1 0) e, rest above h)

-- no number above which all rise is one of them
pub none_below : (n m : ℕ) (ms : List ℕ) → n ≤ m → rises_from m ms ≡ true → times n ms ≡ 0
none_below n m [] low up = refl
none_below n m (k ∷ ms) low up = below_by n m k ms low (λ above h. none_below n k ms above h) (nat_lt m k) (k == n) refl refl up

second_holds : (a b : Bool) → cond a b false ≡ true → b ≡ true
second_holds true b h = h
second_holds false b h = cc

rest_rises : (m : ℕ) (ms : List ℕ) → rises_from m ms ≡ true → rises ms ≡ true
rest_rises m [] h = refl
rest_rises m (k ∷ ks) h = second_holds (nat_lt m k) (rises_from k ks) h

one_more : (n m : ℕ) (ms : List ℕ) → times n ms ≤ 1 → (n ≤ m → times n ms ≡ 0) → (same : Bool) → (m == n) ≡ same → times n (m ∷ ms) ≤ 1
one_more n m ms one none true e =
    let is : m ≡ n = (Decides-eqb m n).0 e in
    let zero : times n ms ≡ 0 = none (omega (arith, is)) in
    omega (arith, ap (λ (b : Bool). cond {A = ℕ} b 1 0) e, zero)
one_more n m ms one none false e = omega (arith, ap (λ (b : Bool). cond {A = ℕ} b 1 0) e, one)

pub rising_differ : (ns : List ℕ) → rises ns ≡ true → AllDiffer ns
rising_differ [] up n = omega arith
rising_differ (m ∷ ms) up n = one_more n m ms (rising_differ ms (rest_rises m ms up) n) (λ low. none_below n m ms low up) (m == n) refl

as_sum : (n : ℕ) (ns : List ℕ) → times n ns ≡ sum_by (λ m. cond {A = ℕ} (m == n) 1 0) ns
as_sum n ns = is_sum_by (times n) (λ m. cond {A = ℕ} (m == n) 1 0) refl (λ _ _. refl) ns

pub differ_in_order : (ns ms : List ℕ) → IsPermutation ns ms → AllDiffer ms → AllDiffer ns
differ_in_order ns ms same h n = omega (arith, h n, as_sum n ns, as_sum n ms, sum_by-IsPermutation (λ (m : ℕ). cond {A = ℕ} (m == n) 1 0) ns ms same)

-- a number of a joined list stands in one of both
pub times-append : (n : ℕ) (ns ms : List ℕ) → times n (ns ++ ms) ≡ times n ns + times n ms
times-append n [] ms = omega arith
times-append n (k ∷ ns) ms = omega (arith, times-append n ns ms)

pub times_here : (n : ℕ) (ns : List ℕ) → 1 ≤ times n (n ∷ ns)
times_here n ns = omega (arith, ap (λ (b : Bool). cond {A = ℕ} b 1 0) ((Decides-eqb n n).1 refl))

pub times_behind : (n k : ℕ) (ns : List ℕ) → times n ns ≤ times n (k ∷ ns)
times_behind n k ns = omega arith
