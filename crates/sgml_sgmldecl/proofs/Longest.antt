-- Reading comes to the longest front that goes on where there is no declaration, and to nothing else.
use Rattle.std.proofs.Common.{◌≡◌, ℕ, zero, suc, ◌<◌, List, refl, ap, ◌∙◌, arith}
use Rattle.sgml_sgmldecl.specs.Machine.{Outcome, bad, whole, run, begin_state}
use Rattle.sgml_sgmldecl.specs.Declaring.{IsLongestFront, BeginsWithNone}
use Rattle.sgml_sgmldecl.proofs.Whole.{read_declared, refused_front}

same : (n m : ℕ) → (n < m → ⊥) → (m < n → ⊥) → n ≡ m
same zero zero f g = refl
same zero (suc m) f g = absurd (f (omega arith))
same (suc n) zero f g = absurd (g (omega arith))
same (suc n) (suc m) f g = ap suc (same n m (λ l. f (omega (arith, l))) (λ l. g (omega (arith, l))))

-- two longest fronts have the same length
one_longest : (text : List ℕ) (n m : ℕ) → IsLongestFront text n → IsLongestFront text m → n ≡ m
one_longest text n m a b = same n m (λ less. a.2 m less b.0 b.1) (λ less. b.2 n less a.0 a.1)

pub longest_refused : (text : List ℕ) (n : ℕ) → IsLongestFront text n → BeginsWithNone text → run 0 begin_state text ≡ bad n
longest_refused text n longest none = by (run 0 begin_state text) refl
  where
    by : (x : Outcome) → run 0 begin_state text ≡ x → run 0 begin_state text ≡ bad n
    by (whole told m) is = let d = read_declared text m told is in absurd (none m told d.0 d.1)
    by (bad m) is = is ∙ ap bad (one_longest text m n (refused_front text m is).0 longest)
