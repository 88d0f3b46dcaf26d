-- The storage of a front of a text that ends within a record.
use Rattle.std.specs.Prelude.{◌≡◌, ◌+◌, ℕ, true, List, [], ◌∷◌, ◌++◌, length}
use Rattle.sgml_io.specs.Records.{records, is_plain}
use Rattle.sgml_storage.specs.Storage.{IsStorageOf}

-- these storage bytes make exactly this front of a text, with the character after it, and end with that character
pub record IsStored (front : List ℕ) (b : ℕ) (storage : List ℕ) : Type 0 where
  pub makes : records storage ≡ front ++ b ∷ []
  pub before : List ℕ
  pub last : storage ≡ before ++ b ∷ []

-- LAW: so does the storage of a front that ends with a character of a record
abbrev pub FrontsAreStored : Type 0
FrontsAreStored =
    (bytes front rest storage : List ℕ) (b : ℕ) → records bytes ≡ front ++ b ∷ rest → is_plain b ≡ true
    → IsStorageOf bytes (length front + 1) storage → IsStored front b storage
