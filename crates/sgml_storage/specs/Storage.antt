-- The storage bytes of a front of a text.
use Rattle.std.specs.Prelude.{◌≡◌, ◌<◌, ◌≤◌, ℕ, List, ◌++◌, length, take}
use Rattle.sgml_io.specs.Records.{records}

-- THE STORAGE of the first n bytes of a text: the shortest front of the storage bytes whose records have so many
pub record IsStorageOf (bytes : List ℕ) (n : ℕ) (front : List ℕ) : Type 0 where
  pub rest : List ℕ
  pub all : bytes ≡ front ++ rest
  pub reaches : n ≤ length (records front)
  pub shortest : (m : ℕ) → m < length front → length (records (take m bytes)) < n
