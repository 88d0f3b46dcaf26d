-- The byte at a place.
use Rattle.std.proofs.Common.{◌≡◌, ℕ, zero, suc, ◌<◌, ◌≤◌, false, List, [], ◌∷◌, length, nat_eq, slice_index_or, refl, arith}
use Rattle.sgml_sgmldecl.specs.Items.{has_byte}

pub has_byte-read : (xs : List ℕ) (n b : ℕ) → n < length xs → nat_eq (slice_index_or xs n 0) b ≡ has_byte xs n b
has_byte-read [] n b h = absurd (omega arith)
has_byte-read (x ∷ xs) zero b h = refl
has_byte-read (x ∷ xs) (suc n) b h = has_byte-read xs n b (omega arith)

pub has_byte-past : (xs : List ℕ) (n b : ℕ) → length xs ≤ n → has_byte xs n b ≡ false
has_byte-past [] n b h = refl
has_byte-past (x ∷ xs) zero b h = absurd (omega arith)
has_byte-past (x ∷ xs) (suc n) b h = has_byte-past xs n b (omega arith)
