-- Names that are found by their hashes.
use Rattle.std.specs.Prelude.{ℕ, ◌≡◌, ◌<◌, List, map, take, length, get_or, Option, None, IfSome}
use Rattle.sgml_names.specs.Index.{found}
use Rattle.sgml_names.specs.Hashing.{hash_by}
use Rattle.sgml_names.specs.declared.hashing.Hashing.{Hashing}

-- the hashes of the names
abbrev pub hashes : Hashing → List (List ℕ × ℕ) → List ℕ
hashes hashing entries = map (λ e. hash_by hashing e.0) entries

-- what is known of hashes is that of these names
abbrev pub IsHashed : Hashing → Option (List ℕ) → List (List ℕ × ℕ) → Type 0
IsHashed hashing known entries = IfSome known (λ all. all ≡ hashes hashing entries)

-- no name is among those before it
abbrev pub IsEachOnce : List (List ℕ × ℕ) → Type 0
IsEachOnce entries = (i : ℕ) (d : List ℕ × ℕ) → i < length entries → found (take i entries) (get_or entries i d).0 ≡ None
