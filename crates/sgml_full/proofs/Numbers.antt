-- The digits of a byte.
use Rattle.std.proofs.Common.{◌≡◌, ◌+◌, ◌/◌, ◌%◌, ◌<◌, ◌≤◌, ◌^◌, ◌∷◌, [], ℕ, arith, refl}
use Rattle.std.proofs.lemmas.Fmt.{decimal_digit, decimal_step}
use Rattle.std.specs.Prelude.{decimal}

pub one_digit : (n : ℕ) → n < 10 → (48 + n) ∷ [] ≡ decimal n
one_digit n lt = rw (decimal_digit n lt) refl

pub two_digits : (n : ℕ) → 10 ≤ n → n < 100 → (48 + n / 10) ∷ (48 + n % 10) ∷ [] ≡ decimal n
two_digits n more lt =
    let tens : n / 10 < 10 = omega arith in
    let fits : n < 2 ^ 64 = omega arith in
    rw (decimal_step n more fits, decimal_digit (n / 10) tens) refl

pub three_digits : (n : ℕ) → 100 ≤ n → n < 1000 → (48 + n / 100) ∷ (48 + n / 10 % 10) ∷ (48 + n % 10) ∷ [] ≡ decimal n
three_digits n more lt =
    let first : 10 ≤ n = omega arith in
    let tens : 10 ≤ n / 10 = omega arith in
    let hundreds : n / 10 / 10 < 10 = omega arith in
    let same : n / 10 / 10 ≡ n / 100 = omega arith in
    let fits : n < 2 ^ 64 = omega arith in
    let fits_tens : n / 10 < 2 ^ 64 = omega arith in
    rw (decimal_step n first fits, decimal_step (n / 10) tens fits_tens, decimal_digit (n / 10 / 10) hundreds, same) refl
