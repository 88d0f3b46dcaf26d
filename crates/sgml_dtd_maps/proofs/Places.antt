-- Items by their places.
use Rattle.std.proofs.Common.{◌≡◌, ◌⊎◌, inl, inr, ℕ, zero, suc, List, [], ◌∷◌, ◌++◌, Some, refl, ap, length}
use Rattle.std.specs.Prelude.{slice_get}

pub get_front : {X : Type 0} (xs ys : List X) (k : ℕ) (x : X) → slice_get xs k ≡ Some x → slice_get (xs ++ ys) k ≡ Some x
get_front [] ys k x e = cc
get_front (z ∷ xs) ys zero x e = e
get_front (z ∷ xs) ys (suc k) x e = get_front xs ys k x e

pub get_mid : {X : Type 0} (xs ys : List X) (x : X) → slice_get (xs ++ x ∷ ys) (length xs) ≡ Some x
get_mid [] ys x = refl
get_mid (z ∷ xs) ys x = get_mid xs ys x

-- an item is one of the first, or the last
pub get_cases : {X : Type 0} (xs : List X) (y : X) (k : ℕ) (x : X) → slice_get (xs ++ y ∷ []) k ≡ Some x → (slice_get xs k ≡ Some x) ⊎ ((k ≡ length xs) × (x ≡ y))
get_cases [] y zero x e = inr (refl, cc)
get_cases [] y (suc k) x e = cc
get_cases (z ∷ xs) y zero x e = inl e
get_cases (z ∷ xs) y (suc k) x e = later (get_cases xs y k x e)
  where
    later : (slice_get xs k ≡ Some x) ⊎ ((k ≡ length xs) × (x ≡ y)) → (slice_get xs k ≡ Some x) ⊎ ((suc k ≡ length (z ∷ xs)) × (x ≡ y))
    later (inl h) = inl h
    later (inr h) = inr (ap suc h.0, h.1)
