-- Laws of summaries.
use Rattle.std.specs.Prelude.{◌≡◌, ℕ, ◌+◌, List, Option, length, take}
use Rattle.sgml_text.specs.Places.{line_column_of}
use Rattle.sgml_io.specs.Records.{records}
use Rattle.sgml_esis.specs.Grammar.{IsBad}
use Rattle.sgml_esis.specs.Spelling.{spell_lines}
use Rattle.sgml_line_summary.specs.Summary.{IsAnswer}
use Rattle.sgml_line_summary.specs.declared.answer.Summarized.{Summarized}

-- what a store has under a name has one answer
abbrev pub OneSummary : Type 0
OneSummary = (file : Option (List ℕ)) (limit : ℕ) (a b : Summarized) → IsAnswer file limit a → IsAnswer file limit b → a ≡ b

-- and it has one
abbrev pub EachFileIsSummarized : Type 0
EachFileIsSummarized = (file : Option (List ℕ)) (limit : ℕ) → (a : Summarized) × IsAnswer file limit a

-- the first byte of a bad line is in the line of its number, in column 1
abbrev pub BadLineBeginsItsLine : Type 0
BadLineBeginsItsLine =
    (number : ℕ) (bytes : List ℕ) (bad : IsBad number bytes)
    → line_column_of (take (length (records (spell_lines bad.before)) + 1) (records bytes)) ≡ (number, 1)
