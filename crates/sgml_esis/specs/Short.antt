-- Few bytes with the end of their line.
use Rattle.std.specs.Prelude.{ℕ, List, [], ◌∷◌, ◌++◌, length, nat_lt, if◌then◌else◌}

-- none, where they are too many
abbrev pub short_end : List ℕ → List ℕ
short_end bytes = if nat_lt (length bytes) 24 then bytes ++ 10 ∷ [] else []
