-- Storage records, apart from how they are read. A record ends at LF, at CR LF, or at a CR with no LF after it;
-- the last one may have no end. (ISO 8879, 7.6.1 and 13.1 have RS and RE; which bytes end a storage record: profile)
use Rattle.std.specs.Prelude.{◌≡◌, ℕ, ◌<◌, ◌==◌, Bool, true, false, List, [], ◌∷◌, ◌++◌, length, flat_map, ⊤}
use Rattle.std.specs.List.{list_all}
use Rattle.sgml_io.specs.Records.{records, is_plain}

-- how a record ends
pub data Ending : Type 0 where
  lf : Ending
  cr_lf : Ending
  cr : Ending
  unended : Ending

-- a record: its characters and its end
abbrev pub StorageRecord : Type 0
StorageRecord = List ℕ × Ending

-- how it is stored
abbrev pub ending_bytes : Ending → List ℕ
ending_bytes lf = 10 ∷ []
ending_bytes cr_lf = 13 ∷ 10 ∷ []
ending_bytes cr = 13 ∷ []
ending_bytes unended = []

abbrev pub stored : List StorageRecord → List ℕ
stored rs = flat_map (λ r. r.0 ++ ending_bytes r.1) rs

-- its text: RS (10), the characters, and RE (13) where it has an end
abbrev pub ending_text : Ending → List ℕ
ending_text lf = 13 ∷ []
ending_text cr_lf = 13 ∷ []
ending_text cr = 13 ∷ []
ending_text unended = []

abbrev pub text_of : List StorageRecord → List ℕ
text_of rs = flat_map (λ r. 10 ∷ r.0 ++ ending_text r.1) rs

abbrev pub begins_with_lf : List ℕ → Bool
begins_with_lf [] = false
begins_with_lf (b ∷ bs) = b == 10

-- what follows an end: no LF after a CR, and nothing after the last record, which has a character
abbrev pub EndsWell : StorageRecord → List StorageRecord → Type 0
EndsWell (chars, lf) rs = ⊤
EndsWell (chars, cr_lf) rs = ⊤
EndsWell (chars, cr) rs = begins_with_lf (stored rs) ≡ false
EndsWell (chars, unended) rs = (0 < length chars) × (rs ≡ [])

abbrev pub AreRecords : List StorageRecord → Type 0
AreRecords [] = ⊤
AreRecords (r ∷ rs) = (list_all is_plain r.0 ≡ true) × EndsWell r rs × AreRecords rs

-- the text of stored records is their text, and all bytes are stored records
pub record RecordsLaw : Type 0 where
  pub text : (rs : List StorageRecord) → AreRecords rs → records (stored rs) ≡ text_of rs
  pub all : (bytes : List ℕ) → (rs : List StorageRecord) × AreRecords rs × (stored rs ≡ bytes)
