-- Each file has an answer.
use Rattle.std.proofs.Common.{◌≡◌, ℕ, ◌+◌, ◌≤◌, ◌⊎◌, inl, inr, zero, suc, List, [], ◌∷◌, length, drop, refl, arith, length-drop, Bool, true, false, nat_lt, Option, None, Some}
use Rattle.std.proofs.lemmas.Bool.{ltb-true, ltb-false}
use Rattle.sgml_text.specs.declared.reason.Reason.TheVariants as reasons
use Rattle.sgml_io.specs.Records.{records}
use Rattle.sgml_esis.specs.declared.line.Line.{Line}
use Rattle.sgml_esis.specs.Grammar.{Front, is_none, IsFile, IsBad}
use Rattle.sgml_esis.specs.Spelling.{spell_lines}
use Rattle.sgml_esis.specs.Reading.{next_of}
use Rattle.sgml_esis.proofs.Contents.{no_line}
use Rattle.sgml_esis.proofs.Files.{Next, next_form, goes_on}
use Rattle.sgml_line_summary.specs.declared.answer.Summarized.{Summarized}
use Rattle.sgml_line_summary.specs.declared.answer.Summarized.TheVariants as answers
use Rattle.sgml_line_summary.specs.Summary.{summary_of, refused_in, IsRead, IsAnswer}
use Rattle.sgml_line_summary.specs.Laws.{EachFileIsSummarized}

-- a file of lines, or one with a bad line
abbrev Judged : List ℕ → Type 0
Judged bytes = ((ls : List Line) × IsFile ls bytes) ⊎ ((number : ℕ) × IsBad number bytes)

-- the first line of what is left, or that it has none
judged_next : (n : ℕ) (ls : List Line) (bytes : List ℕ) (b : ℕ) (bs : List ℕ) (found : Option (Line × ℕ)) → next_of (is_none ls) (b ∷ bs) ≡ found → length (b ∷ bs) ≤ suc n → Front true bytes ls (b ∷ bs)
    → ((more : List Line) (rest : List ℕ) → length rest ≤ n → Front true bytes more rest → Judged bytes) → Judged bytes
judged_next n ls bytes b bs None e few h later = inr (
  length ls + 1,
  record { before = ls; rest = b ∷ bs; front = h; some = λ k. cc; counted = refl; bad = no_line (is_none ls) (b ∷ bs) e },
)
judged_next n ls bytes b bs (Some (line, size)) e few h later =
    let next : Next (is_none ls) (b ∷ bs) line size = next_form (is_none ls) (b ∷ bs) line size e in
    let less : length (drop size (b ∷ bs)) ≤ n = omega (arith, length-drop size (b ∷ bs), next.counted, few) in
    later _ (drop size (b ∷ bs)) less (goes_on ls bytes (b ∷ bs) line size h next)

judged_from : (n : ℕ) (ls : List Line) (bytes rest : List ℕ) → length rest ≤ n → Front true bytes ls rest → Judged bytes
judged_from n ls bytes [] few h = inl (ls, record { whole = h })
judged_from zero ls bytes (b ∷ bs) few h = absurd (omega arith)
judged_from (suc n) ls bytes (b ∷ bs) few h =
    judged_next n ls bytes b bs (next_of (is_none ls) (b ∷ bs)) refl few h (λ more rest less k. judged_from n more bytes rest less k)

read : (bytes : List ℕ) → Judged bytes → (a : Summarized) × IsRead bytes a
read bytes (inl p) = (answers.Summary (summary_of p.0), inl (p.0, p.1, refl))
read bytes (inr p) = (refused_in (records bytes) (length (records (spell_lines p.1.before)) + 1) reasons.BadLine, inr (p.0, p.1, refl))

each_of_file : (bytes : List ℕ) (limit : ℕ) (t : Bool) → nat_lt limit (length bytes) ≡ t → (a : Summarized) × IsAnswer (Some bytes) limit a
each_of_file bytes limit true e = (refused_in [] 0 reasons.EntityTooLarge, inl (ltb-true limit (length bytes) e, refl))
each_of_file bytes limit false e =
    let r = read bytes (judged_from (length bytes) [] bytes bytes (omega arith) refl) in
    (r.0, inr (ltb-false limit (length bytes) e, r.1))

each_of : (file : Option (List ℕ)) (limit : ℕ) → (a : Summarized) × IsAnswer file limit a
each_of None limit = (refused_in [] 0 reasons.Absent, refl)
each_of (Some bytes) limit = each_of_file bytes limit (nat_lt limit (length bytes)) refl

pub each : EachFileIsSummarized
each = λ file limit. each_of file limit
