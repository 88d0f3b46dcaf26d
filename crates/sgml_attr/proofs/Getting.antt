-- Items by their places.
use Rattle.std.proofs.Common.{◌≡◌, ◌≢◌, ◌<◌, ◌+◌, ◌⊎◌, inl, inr, ℕ, zero, suc, List, [], ◌∷◌, ◌++◌, Some, refl, ap, ◌∙◌, arith, length, set, take}
use Rattle.std.specs.Prelude.{slice_get}
use Rattle.std.proofs.lemmas.List.{take_more}
use Rattle.std.proofs.lemmas.Option.{slice_get_within, get_or_from_slice_get}

pub get-set-here : {X : Type 0} (xs : List X) (n : ℕ) (y : X) → n < length xs → slice_get (set xs n y) n ≡ Some y
get-set-here [] n y l = absurd (omega arith)
get-set-here (x ∷ xs) zero y l = refl
get-set-here (x ∷ xs) (suc n) y l = get-set-here xs n y (omega arith)

pub get-set-other : {X : Type 0} (xs : List X) (n m : ℕ) (y : X) → m ≢ n → slice_get (set xs n y) m ≡ slice_get xs m
get-set-other [] n m y d = refl
get-set-other (x ∷ xs) zero zero y d = absurd (d refl)
get-set-other (x ∷ xs) zero (suc m) y d = refl
get-set-other (x ∷ xs) (suc n) zero y d = refl
get-set-other (x ∷ xs) (suc n) (suc m) y d = get-set-other xs n m y (λ e. d (ap suc e))

pub get-front : {X : Type 0} (xs ys : List X) (k : ℕ) (x : X) → slice_get xs k ≡ Some x → slice_get (xs ++ ys) k ≡ Some x
get-front [] ys k x e = cc
get-front (z ∷ xs) ys zero x e = e
get-front (z ∷ xs) ys (suc k) x e = get-front xs ys k x e

pub get-end : {X : Type 0} (xs : List X) (y : X) (k : ℕ) → k ≡ length xs → slice_get (xs ++ y ∷ []) k ≡ Some y
get-end [] y zero e = refl
get-end [] y (suc k) e = absurd (omega arith)
get-end (z ∷ xs) y zero e = absurd (omega arith)
get-end (z ∷ xs) y (suc k) e = get-end xs y k (omega arith)

-- an item is one of the first, or the last
pub get-cases : {X : Type 0} (xs : List X) (y : X) (k : ℕ) (x : X) → slice_get (xs ++ y ∷ []) k ≡ Some x → (slice_get xs k ≡ Some x) ⊎ ((k ≡ length xs) × (y ≡ x))
get-cases [] y zero x e = inr (refl, cc)
get-cases [] y (suc k) x e = cc
get-cases (z ∷ xs) y zero x e = inl e
get-cases (z ∷ xs) y (suc k) x e = later (get-cases xs y k x e)
  where
    later : (slice_get xs k ≡ Some x) ⊎ ((k ≡ length xs) × (y ≡ x)) → (slice_get xs k ≡ Some x) ⊎ ((suc k ≡ length (z ∷ xs)) × (y ≡ x))
    later (inl h) = inl h
    later (inr h) = inr (ap suc h.0, h.1)

pub take-get : {X : Type 0} (xs : List X) (j : ℕ) (x : X) → slice_get xs j ≡ Some x → take (j + 1) xs ≡ take j xs ++ x ∷ []
take-get xs j x e =
    take_more xs j x (slice_get_within xs j x e) ∙ ap (λ y. take j xs ++ y ∷ []) (get_or_from_slice_get xs j x x e)
