-- What is left of a list from a place on.
use Rattle.std.specs.Prelude.{◌≡◌, ◌+◌, ℕ, zero, suc, List, [], ◌∷◌, Some, drop, slice_get}
use Rattle.std.proofs.Common.{ap, ◌∙◌, arith}

drop-here : {A : Type 0} (xs : List A) (i : ℕ) (x : A) → slice_get xs i ≡ Some x → drop i xs ≡ x ∷ drop (suc i) xs
drop-here [] zero x e = cc e
drop-here [] (suc i) x e = cc e
drop-here (y ∷ ys) zero x e = let f : y ≡ x = cc e in ap (λ z. z ∷ ys) f
drop-here (y ∷ ys) (suc i) x e = drop-here ys i x e

pub drop-at : {A : Type 0} (xs : List A) (i : ℕ) (x : A) → slice_get xs i ≡ Some x → drop i xs ≡ x ∷ drop (i + 1) xs
drop-at xs i x e = let one : suc i ≡ i + 1 = omega arith in drop-here xs i x e ∙ ap (λ n. x ∷ drop n xs) one
