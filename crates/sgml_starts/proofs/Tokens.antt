-- Tokens of name characters.
use Rattle.std.proofs.Common.{◌≡◌, ◌<◌, ◌+◌, ◌==◌, ◌∷◌, ℕ, Bool, true, false, List, [], refl, arith, length, eq-eqb, ne_eqb, sym, ◌∙◌}
use Rattle.std.specs.List.{list_all, prefix_len}

all-step : (p : ℕ → Bool) (b : ℕ) (bytes : List ℕ) (t : Bool) → p b ≡ t → (list_all p bytes ≡ true → prefix_len p bytes ≡ length bytes)
    → list_all p (b ∷ bytes) ≡ true → prefix_len p (b ∷ bytes) ≡ length (b ∷ bytes)
all-step p b bytes true is h = rw is (λ e. omega (arith, h e))
all-step p b bytes false is h = rw is (λ e. cc e)

all-then : (p : ℕ → Bool) (bytes : List ℕ) → list_all p bytes ≡ true → prefix_len p bytes ≡ length bytes
all-then p [] e = refl
all-then p (b ∷ bytes) e = all-step p b bytes (p b) refl (all-then p bytes) e

fewer-step : (p : ℕ → Bool) (b : ℕ) (bytes : List ℕ) (t : Bool) → p b ≡ t → (list_all p bytes ≡ false → prefix_len p bytes < length bytes)
    → list_all p (b ∷ bytes) ≡ false → prefix_len p (b ∷ bytes) < length (b ∷ bytes)
fewer-step p b bytes true is h = rw is (λ e. omega (arith, h e))
fewer-step p b bytes false is h = rw is (λ e. omega arith)

fewer : (p : ℕ → Bool) (bytes : List ℕ) → list_all p bytes ≡ false → prefix_len p bytes < length bytes
fewer p [] e = cc e
fewer p (b ∷ bytes) e = fewer-step p b bytes (p b) refl (fewer p bytes) e

told : (p : ℕ → Bool) (bytes : List ℕ) (t : Bool) → list_all p bytes ≡ t → (prefix_len p bytes == length bytes) ≡ t
told p bytes true e = eq-eqb (prefix_len p bytes) (length bytes) (all-then p bytes e)
told p bytes false e = ne_eqb (prefix_len p bytes) (length bytes) (λ same. omega (arith, same, fewer p bytes e))

-- so many of them stand at the front as there are
pub all_by_length : (p : ℕ → Bool) (bytes : List ℕ) → (prefix_len p bytes == length bytes) ≡ list_all p bytes
all_by_length p bytes = told p bytes (list_all p bytes) refl
