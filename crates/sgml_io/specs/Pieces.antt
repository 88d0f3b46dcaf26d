-- What a reader of records makes of bytes that come in pieces.
use Rattle.std.specs.Prelude.{◌≡◌, ℕ, List, ◌++◌}
use Rattle.sgml_io.specs.Records.{records, records_from}
use Rattle.sgml_io.specs.declared.records.RecordReader.{RecordReader}

-- what the reader will make of the bytes that are still to come
abbrev pub remaining : RecordReader → List ℕ → List ℕ
remaining reader rest = records_from reader.start reader.after_cr rest

-- The reader was pushed these bytes and has made this text: whatever comes, the text of all bytes is what it has made
-- and what it will make.
abbrev pub HasMade : RecordReader → List ℕ → List ℕ → Type 0
HasMade reader bytes made = (rest : List ℕ) → made ++ remaining reader rest ≡ records (bytes ++ rest)

-- one more piece: what is appended goes on with whatever was made before
abbrev pub Makes : RecordReader → RecordReader → List ℕ → List ℕ → List ℕ → Type 0
Makes old new bytes text_old text_new =
    (more : List ℕ) × (text_new ≡ text_old ++ more) × ((before made : List ℕ) → HasMade old before made → HasMade new (before ++ bytes) (made ++ more))

-- the end: what was made before and what is appended are the text of all bytes
abbrev pub Ends : RecordReader → List ℕ → List ℕ → Type 0
Ends old text_old text_new =
    (more : List ℕ) × (text_new ≡ text_old ++ more) × ((bytes made : List ℕ) → HasMade old bytes made → made ++ more ≡ records bytes)
