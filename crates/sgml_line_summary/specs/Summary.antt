-- The summary of a file of lines. (profile)
use Rattle.std.specs.Prelude.{◌≡◌, ◌⊎◌, ℕ, ◌+◌, ◌<◌, ◌≤◌, Bool, true, false, List, [], ◌∷◌, ◌++◌, length, take, Option, Some, None, codes, decimal, count_by}
use Rattle.sgml_text.specs.declared.reason.Reason.{Reason}
use Rattle.sgml_text.specs.declared.reason.Reason.TheVariants as reasons
use Rattle.sgml_text.specs.Places.{line_column_of}
use Rattle.sgml_io.specs.Records.{records}
use Rattle.sgml_esis.specs.declared.line.Line.{Line}
use Rattle.sgml_esis.specs.declared.line.Line.TheVariants as lines
use Rattle.sgml_esis.specs.Grammar.{IsFile, IsBad}
use Rattle.sgml_esis.specs.Spelling.{spell_lines}
use Rattle.sgml_line_summary.specs.declared.answer.Summarized.{Summarized}
use Rattle.sgml_line_summary.specs.declared.answer.Summarized.TheVariants as answers

-- an element starts
abbrev pub is_start : Line → Bool
is_start (lines.Start name) = true
is_start line = false

-- the line `lines N elements M`, which LF (10) ends
abbrev pub summary_text : ℕ → ℕ → List ℕ
summary_text lines elements =
    codes "lines " ++ (decimal lines ++ (codes " elements " ++ (decimal elements ++ 10 ∷ [])))

-- THE SUMMARY of lines: how many they are, and how many of them start an element
abbrev pub summary_of : List Line → List ℕ
summary_of ls = summary_text (length ls) (count_by is_start ls)

-- the refusal at a place in a text
abbrev pub refused_in : List ℕ → ℕ → Reason → Summarized
refused_in text at reason =
    answers.Refused (record { place = record { entity = 0; at = at }; reason = reason }) (line_column_of (take at text)).0 (line_column_of (take at text)).1

-- the bytes are lines, and the answer is their summary
abbrev pub HasSummary : List ℕ → Summarized → Type 0
HasSummary bytes answer = (ls : List Line) × IsFile ls bytes × (answer ≡ answers.Summary (summary_of ls))

-- a line is the first in no form, and is refused at its first byte: in the text of the file's records that byte comes
-- after the records of the lines before, and the RS of its own record
abbrev pub HasBadLine : List ℕ → Summarized → Type 0
HasBadLine bytes answer =
    (number : ℕ) × (bad : IsBad number bytes) × (answer ≡ refused_in (records bytes) (length (records (spell_lines bad.before)) + 1) reasons.BadLine)

abbrev pub IsRead : List ℕ → Summarized → Type 0
IsRead bytes answer = HasSummary bytes answer ⊎ HasBadLine bytes answer

-- THE ANSWER for what the store has under the name
abbrev pub IsAnswer : Option (List ℕ) → ℕ → Summarized → Type 0
IsAnswer None limit answer = answer ≡ refused_in [] 0 reasons.Absent
IsAnswer (Some bytes) limit answer =
    ((limit < length bytes) × (answer ≡ refused_in [] 0 reasons.EntityTooLarge)) ⊎ ((length bytes ≤ limit) × IsRead bytes answer)

-- it is refused since it isn't there
abbrev pub IsAbsent : Summarized → Type 0
IsAbsent (answers.Summary text) = ⊥
IsAbsent (answers.Refused r line column) = r.reason ≡ reasons.Absent
