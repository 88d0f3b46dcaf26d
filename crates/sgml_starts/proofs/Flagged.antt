-- Few flags at the front of a row.
use Rattle.std.proofs.Common.{◌≡◌, ◌<◌, ◌≤◌, ◌∷◌, ℕ, zero, suc, Bool, true, false, List, [], refl, sym, ap, ◌∙◌, arith, length, take, set, replicate, nat_lt, if◌then◌else◌}

pub no-more : (n : ℕ) → n ≤ 16 → nat_lt 16 n ≡ false
no-more n l = grind arith

pub take-none : (n m : ℕ) → n ≤ m → take n (replicate m false) ≡ replicate n false
take-none zero m l = refl
take-none (suc n) zero l = absurd (omega (arith, l))
take-none (suc n) (suc m) l = ap (λ (xs : List Bool). false ∷ xs) (take-none n m (omega (arith, l)))

pub take-set : (n : ℕ) (xs : List Bool) (i : ℕ) (b : Bool) → take n (set xs i b) ≡ set (take n xs) i b
take-set zero xs i b = refl
take-set (suc n) [] i b = refl
take-set (suc n) (x ∷ xs) zero b = refl
take-set (suc n) (x ∷ xs) (suc i) b = ap (λ (l : List Bool). x ∷ l) (take-set n xs i b)
