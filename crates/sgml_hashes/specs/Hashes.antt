-- Hashes of names.
use Rattle.std.specs.Prelude.{ℕ, ◌==◌, ◌≤◌, ◌+◌, Bool, true, false, List, [], ◌∷◌, nat_lt, if◌then◌else◌}
use Rattle.std.specs.Hash.FoldHasher as folding

-- std's quick hash
unfoldable pub hash_of : List ℕ → ℕ
hash_of name = folding.finish (folding.write folding.initial name)

-- how often a number stands in a list
abbrev pub times : ℕ → List ℕ → ℕ
times n [] = 0
times n (m ∷ ms) = (if m == n then 1 else 0) + times n ms

-- each stands in it once at most
abbrev pub AllDiffer : List ℕ → Type 0
AllDiffer ns = (n : ℕ) → times n ns ≤ 1

-- each number is greater than the one before it
abbrev pub rises_from : ℕ → List ℕ → Bool
rises_from n [] = true
rises_from n (m ∷ ms) = if nat_lt n m then rises_from m ms else false

abbrev pub rises : List ℕ → Bool
rises [] = true
rises (n ∷ ns) = rises_from n ns
