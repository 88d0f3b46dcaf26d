-- Where a record of a text begins.
use Rattle.std.specs.Prelude.{ℕ, zero, suc, ◌==◌, List, [], ◌∷◌, if◌then◌else◌}

-- how many bytes the first so many records have, each of which ends with RE (13)
abbrev pub size_of_records : ℕ → List ℕ → ℕ
size_of_records zero text = 0
size_of_records (suc n) [] = 0
size_of_records (suc n) (b ∷ bs) = suc (size_of_records (if b == 13 then n else suc n) bs)
