-- A file has one answer.
use Rattle.std.proofs.Common.{◌≡◌, ℕ, ◌+◌, inl, inr, List, length, sym, ap, ◌∙◌, arith, Option, None, Some}
use Rattle.sgml_text.specs.declared.reason.Reason.TheVariants as reasons
use Rattle.sgml_io.specs.Records.{records}
use Rattle.sgml_esis.specs.Grammar.{IsBad}
use Rattle.sgml_esis.specs.Spelling.{spell_lines}
use Rattle.sgml_esis.proofs.Files.{reading}
use Rattle.sgml_line_summary.specs.declared.answer.Summarized.{Summarized}
use Rattle.sgml_line_summary.specs.declared.answer.Summarized.TheVariants as answers
use Rattle.sgml_line_summary.specs.Begins.{size_of_records}
use Rattle.sgml_line_summary.specs.Summary.{summary_of, refused_in, IsRead, IsAnswer}
use Rattle.sgml_line_summary.specs.Laws.{OneSummary}
use Rattle.sgml_line_summary.proofs.Begun.{bad_size}

one_less : (m n : ℕ) → m + 1 ≡ n + 1 → m ≡ n
one_less m n h = omega arith

one_place : (m n : ℕ) (bytes : List ℕ) (a : IsBad m bytes) (b : IsBad n bytes) → length (records (spell_lines a.before)) ≡ length (records (spell_lines b.before))
one_place m n bytes a b =
    let same : length a.before + 1 ≡ length b.before + 1 = sym a.counted ∙ reading.bad m n bytes a b ∙ b.counted in
    sym (bad_size m bytes a) ∙ ap (λ k. size_of_records k (records bytes)) (one_less (length a.before) (length b.before) same) ∙ bad_size n bytes b

one_read : (bytes : List ℕ) (a b : Summarized) → IsRead bytes a → IsRead bytes b → a ≡ b
one_read bytes a b (inl p) (inl q) = p.2 ∙ ap (λ ls. answers.Summary (summary_of ls)) (reading.file p.0 q.0 bytes p.1 q.1) ∙ sym q.2
one_read bytes a b (inl p) (inr q) = absurd (reading.apart p.0 q.0 bytes p.1 q.1)
one_read bytes a b (inr p) (inl q) = absurd (reading.apart q.0 p.0 bytes q.1 p.1)
one_read bytes a b (inr p) (inr q) = p.2 ∙ ap (λ n. refused_in (records bytes) (n + 1) reasons.BadLine) (one_place p.0 q.0 bytes p.1 q.1) ∙ sym q.2

one_of_file : (bytes : List ℕ) (limit : ℕ) (a b : Summarized) → IsAnswer (Some bytes) limit a → IsAnswer (Some bytes) limit b → a ≡ b
one_of_file bytes limit a b (inl p) (inl q) = p.1 ∙ sym q.1
one_of_file bytes limit a b (inl p) (inr q) = absurd (omega (arith, p.0, q.0))
one_of_file bytes limit a b (inr p) (inl q) = absurd (omega (arith, p.0, q.0))
one_of_file bytes limit a b (inr p) (inr q) = one_read bytes a b p.1 q.1

one_of : (file : Option (List ℕ)) (limit : ℕ) (a b : Summarized) → IsAnswer file limit a → IsAnswer file limit b → a ≡ b
one_of None limit a b p q = p ∙ sym q
one_of (Some bytes) limit a b p q = one_of_file bytes limit a b p q

pub one : OneSummary
one = λ file limit a b p q. one_of file limit a b p q
