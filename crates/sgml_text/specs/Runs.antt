-- What a text begins with.
use Rattle.std.specs.Prelude.{ℕ, Bool, List, [], ◌∷◌, if◌then◌else◌}

-- the bytes up to the first that fails the test
abbrev pub run_of : (ℕ → Bool) → List ℕ → List ℕ
run_of test [] = []
run_of test (b ∷ bytes) = if test b then b ∷ run_of test bytes else []
