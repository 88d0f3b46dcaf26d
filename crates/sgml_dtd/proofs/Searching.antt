-- A search in a list, from a place on.
use Rattle.std.proofs.Common.{◌≡◌, ℕ, suc, length, Bool, ◌+◌, ◌<◌, ◌||◌, List, [], ◌∷◌, Option, Some, None, refl, ap, sym, ◌∙◌, drop, get_or, arith}
use Rattle.std.proofs.Math.Seq.{drop-cons}
use Rattle.std.proofs.lemmas.Option.{slice_get_within, get_or_from_slice_get}
use Rattle.std.specs.List.{slice_get, list_any}
use Rattle.std.specs.Option.{IsSomeAnd}

-- the element at the place, or one after it
pub any_from : {A : Type 0} (p : A → Bool) (xs : List A) (i : ℕ) (x : A) → slice_get xs i ≡ Some x → list_any p (drop i xs) ≡ (p x || list_any p (drop (i + 1) xs))
any_from p xs i x is =
    let within : i < length xs = slice_get_within xs i x is in
    let next : suc i ≡ i + 1 = omega arith in
    ap (list_any p) (drop-cons xs i x within)
    ∙ ap (λ y. p y || list_any p (drop (suc i) xs)) (get_or_from_slice_get xs i x x is)
    ∙ ap (λ (k : ℕ). p x || list_any p (drop k xs)) next

-- of what is there holds what follows from what holds of it
pub some_weaker : {A : Type 0} (o : Option A) (P Q : A → Type 0) → ((x : A) → P x → Q x) → IsSomeAnd o P → IsSomeAnd o Q
some_weaker None P Q f h = h
some_weaker (Some x) P Q f h = f x h
