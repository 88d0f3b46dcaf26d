-- The text of storage bytes: records, each of which begins with RS (10) and ends with RE (13).
use Rattle.std.specs.Prelude.{◌≡◌, ◌++◌, ℕ, Bool, true, false, List, [], ◌∷◌, if◌then◌else◌, ◌==◌, ◌&&◌, not, length}
use Rattle.std.specs.List.{prefix_len}

-- a byte that ends no record
abbrev pub is_plain : ℕ → Bool
is_plain b = not (b == 13) && not (b == 10)

-- a stretch in which none ends
abbrev pub IsPlain : List ℕ → Type 0
IsPlain bytes = prefix_len is_plain bytes ≡ length bytes

-- A TEXT ENDS WITHIN A RECORD: with a character that ends none (7.6.1)
pub record EndsInRecord (text : List ℕ) : Type 0 where
  pub front : List ℕ
  pub last : ℕ
  pub is : text ≡ front ++ last ∷ []
  pub plain : is_plain last ≡ true

-- An RS stands before the first character of a record.
abbrev pub begun : Bool → List ℕ → List ℕ
begun start text = if start then 10 ∷ text else text

-- start: a record begins here; cr: the byte before is a CR that ended a record
abbrev pub records_from : Bool → Bool → List ℕ → List ℕ
records_from start cr [] = []
records_from start cr (b ∷ bs) =
    if b == 13 then begun start (13 ∷ records_from true true bs) else if b == 10 then (if cr then records_from true false bs else begun start (13 ∷ records_from true false bs)) else begun start (b ∷ records_from false false bs)

-- Of these bytes so many are left behind the text that was made, whatever follows them.
abbrev pub ReadsOn : List ℕ → Bool → Bool → List ℕ → List ℕ → Bool → Bool → List ℕ → Type 0
ReadsOn before start cr bytes text starts ends_in_cr left =
    (rest : List ℕ) → text ++ records_from starts ends_in_cr (left ++ rest) ≡ before ++ records_from start cr (bytes ++ rest)

abbrev pub records : List ℕ → List ℕ
records bytes = records_from true false bytes
