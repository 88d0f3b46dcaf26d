-- The text of a file's records, of which the first are lines.
use Rattle.std.proofs.Common.{◌≡◌, ◌≢◌, ℕ, ◌+◌, ◌≤◌, suc, List, [], ◌∷◌, ◌++◌, length, take, refl, sym, ap, ◌∙◌, arith, append_assoc, length-append, zero-add, cond, Bool, true, false, ◌==◌}
use Rattle.std.proofs.lemmas.Bool.Decides.{nat_tests}
use Rattle.std.proofs.lemmas.List.Sums.{sum_by-cons}
use Rattle.std.specs.Prelude.{fold}
use Rattle.std.specs.List.{list_all, count_by}
use Rattle.sgml_text.specs.Places.{is_record_end, record_after, last_record, line_column_of, without_start}
use Rattle.sgml_io.specs.Records.{records, records_from, is_plain, begun}
use Rattle.sgml_io.proofs.Made.{plain_step}
use Rattle.sgml_esis.specs.declared.line.Line.{Line}
use Rattle.sgml_esis.specs.Grammar.{Form, Front, is_none, IsBad}
use Rattle.sgml_esis.specs.Spelling.{spell_content, spell_lines}
use Rattle.sgml_esis.proofs.Tokens.{both}
use Rattle.sgml_esis.proofs.Forms.{form_spelled}
use Rattle.sgml_line_summary.specs.Begins.{size_of_records}
use Rattle.sgml_line_summary.specs.Laws.{BadLineBeginsItsLine}
use Rattle.sgml_line_summary.proofs.Plain.{form_plain}

-- a line that begins a file is a record of its own
inside : (content more : List ℕ) → list_all is_plain content ≡ true → records_from false false (content ++ 10 ∷ more) ≡ content ++ 13 ∷ records more
inside [] more h = refl
inside (b ∷ bs) more h =
    let p = both (is_plain b) (list_all is_plain bs) h in
    plain_step false false b (bs ++ 10 ∷ more) p.0 ∙ ap (λ v. b ∷ v) (inside bs more p.1)

first_record : (content more : List ℕ) → list_all is_plain content ≡ true → records (content ++ 10 ∷ more) ≡ 10 ∷ content ++ 13 ∷ records more
first_record [] more h = refl
first_record (b ∷ bs) more h =
    let p = both (is_plain b) (list_all is_plain bs) h in
    plain_step true false b (bs ++ 10 ∷ more) p.0 ∙ ap (λ v. 10 ∷ b ∷ v) (inside bs more p.1)

spelled : (l : Line) (ls : List Line) (content : List ℕ) → content ≡ spell_content l → spell_lines (l ∷ ls) ≡ content ++ 10 ∷ spell_lines ls
spelled l ls content is = ap (λ v. (v ++ 10 ∷ []) ++ spell_lines ls) (sym is) ∙ append_assoc content (10 ∷ []) (spell_lines ls)

-- one line's record, and what follows it
pub record Step (l : Line) (ls : List Line) (bytes content more : List ℕ) : Type 0 where
  pub plain : list_all is_plain content ≡ true
  pub text : records bytes ≡ 10 ∷ content ++ 13 ∷ records more
  pub lines : records (spell_lines (l ∷ ls)) ≡ 10 ∷ content ++ 13 ∷ records (spell_lines ls)

step : (first last : Bool) (l : Line) (ls : List Line) (bytes content more : List ℕ) → bytes ≡ content ++ 10 ∷ more → Form first last l content → Step l ls bytes content more
step first last l ls bytes content more e f =
    let p = form_plain first last l content f in
    record {
      plain = p;
      text = ap records e ∙ first_record content more p;
      lines = ap records (spelled l ls content (form_spelled first last l content f)) ∙ first_record content (spell_lines ls) p;
    }

-- the records of lines, and those of the rest
front_text : (ls : List Line) (first : Bool) (bytes rest : List ℕ) → Front first bytes ls rest → records bytes ≡ records (spell_lines ls) ++ records rest
front_text [] first bytes rest h = ap records h
front_text (l ∷ ls) first bytes rest (c, m, e, f, more) =
    let s = step first (is_none m) l ls bytes c m e f in
    s.text ∙ ap (λ v. 10 ∷ c ++ 13 ∷ v) (front_text ls false m rest more) ∙ sym (ap (λ v. v ++ records rest) s.lines ∙ append_assoc (10 ∷ c) (13 ∷ records (spell_lines ls)) (records rest))

-- such a byte ends no record
not_end : (b : ℕ) → is_plain b ≡ true → (b == 13) ≡ false
not_end b h = grind (arith, nat_tests)

size_over : (n : ℕ) (content rest : List ℕ) → list_all is_plain content ≡ true → size_of_records (suc n) (content ++ 13 ∷ rest) ≡ length content + suc (size_of_records n rest)
size_over n [] rest h = omega arith
size_over n (b ∷ bs) rest h =
    let p = both (is_plain b) (list_all is_plain bs) h in
    let one : suc (length bs + suc (size_of_records n rest)) ≡ suc (length bs) + suc (size_of_records n rest) = omega arith in
    ap (λ t. suc (size_of_records (cond t n (suc n)) (bs ++ 13 ∷ rest))) (not_end b p.0) ∙ ap suc (size_over n bs rest p.1) ∙ one

-- their size is told by counting them
pub front_size : (ls : List Line) (first : Bool) (bytes rest : List ℕ) → Front first bytes ls rest → size_of_records (length ls) (records bytes) ≡ length (records (spell_lines ls))
front_size [] first bytes rest h = refl
front_size (l ∷ ls) first bytes rest (c, m, e, f, more) =
    let s = step first (is_none m) l ls bytes c m e f in
    let long : length (c ++ 13 ∷ records (spell_lines ls)) ≡ length c + suc (length (records (spell_lines ls))) = length-append c (13 ∷ records (spell_lines ls)) in
    ap (size_of_records (suc (length ls))) s.text ∙ ap suc (size_over (length ls) c (records m) s.plain) ∙ ap (λ n. suc (length c + suc n)) (front_size ls false m rest more) ∙ sym (ap length s.lines ∙ ap suc long)

-- what is left begins with RS
begins_with_start : (rest : List ℕ) → rest ≢ [] → (more : List ℕ) × (records rest ≡ 10 ∷ more)
begins_with_start [] h = absurd (h refl)
begins_with_start (b ∷ bs) h =
    elim (b == 13) as (λ t. (more : List ℕ) × (cond t (begun true (13 ∷ records_from true true bs)) (cond (b == 10) (cond false (records_from true false bs) (begun true (13 ∷ records_from true false bs))) (begun true (b ∷ records_from false false bs))) ≡ 10 ∷ more)) [
      | true ↦ (13 ∷ records_from true true bs, refl)
      | false ↦ elim (b == 10) as (λ t. (more : List ℕ) × (cond t (cond false (records_from true false bs) (begun true (13 ∷ records_from true false bs))) (begun true (b ∷ records_from false false bs)) ≡ 10 ∷ more)) [
        | true ↦ (13 ∷ records_from true false bs, refl)
        | false ↦ (b ∷ records_from false false bs, refl)
      ]
    ]

-- THE TEXT at a bad line
pub record Broken (lines : List Line) (bytes : List ℕ) : Type 0 where
  pub more : List ℕ
  pub text : records bytes ≡ records (spell_lines lines) ++ 10 ∷ more

pub broken : (number : ℕ) (bytes : List ℕ) (bad : IsBad number bytes) → Broken bad.before bytes
broken number bytes bad =
    let b = begins_with_start bad.rest bad.some in
    record { more = b.0; text = front_text bad.before true bytes bad.rest bad.front ∙ ap (λ v. records (spell_lines bad.before) ++ v) b.1 }

pub bad_size : (number : ℕ) (bytes : List ℕ) (bad : IsBad number bytes) → size_of_records (length bad.before) (records bytes) ≡ length (records (spell_lines bad.before))
bad_size number bytes bad = front_size bad.before true bytes bad.rest bad.front

-- the place of a bad line is in the text
pub bad_within : (number : ℕ) (bytes : List ℕ) (bad : IsBad number bytes) → length (records (spell_lines bad.before)) + 1 ≤ length (records bytes)
bad_within number bytes bad =
    let b = broken number bytes bad in
    let long : length (records bytes) ≡ length (records (spell_lines bad.before)) + suc (length b.more) = ap length b.text ∙ length-append (records (spell_lines bad.before)) (10 ∷ b.more) in
    omega (arith, long)

-- the bytes before it
took : (front more : List ℕ) → take (length front + 1) (front ++ 10 ∷ more) ≡ front ++ 10 ∷ []
took [] more = refl
took (b ∷ bs) more =
    let one : suc (length bs) + 1 ≡ suc (length bs + 1) = omega arith in
    ap (λ n. take n (b ∷ bs ++ 10 ∷ more)) one ∙ ap (λ v. b ∷ v) (took bs more)

count_one : (b : ℕ) (rest : List ℕ) → (b == 13) ≡ false → count_by is_record_end (b ∷ rest) ≡ count_by is_record_end rest
count_one b rest h = sum_by-cons (λ x. cond (is_record_end x) 1 0) b rest ∙ ap (λ t. cond t 1 0 + count_by is_record_end rest) h ∙ zero-add (count_by is_record_end rest)

count_over : (content rest : List ℕ) → list_all is_plain content ≡ true → count_by is_record_end (content ++ 13 ∷ rest) ≡ 1 + count_by is_record_end rest
count_over [] rest h = sum_by-cons (λ x. cond (is_record_end x) 1 0) 13 rest
count_over (b ∷ bs) rest h =
    let p = both (is_plain b) (list_all is_plain bs) h in
    count_one b (bs ++ 13 ∷ rest) (not_end b p.0) ∙ count_over bs rest p.1

count_lines : (ls : List Line) (first : Bool) (bytes rest tail : List ℕ) → Front first bytes ls rest → count_by is_record_end (records (spell_lines ls) ++ tail) ≡ length ls + count_by is_record_end tail
count_lines [] first bytes rest tail h = sym (zero-add (count_by is_record_end tail))
count_lines (l ∷ ls) first bytes rest tail (c, m, e, f, more) =
    let s = step first (is_none m) l ls bytes c m e f in
    let one : 1 + (length ls + count_by is_record_end tail) ≡ suc (length ls) + count_by is_record_end tail = omega arith in
    ap (λ v. count_by is_record_end (v ++ tail)) s.lines ∙ ap (count_by is_record_end) (append_assoc (10 ∷ c) (13 ∷ records (spell_lines ls)) tail)
    ∙ count_one 10 (c ++ 13 ∷ (records (spell_lines ls) ++ tail)) refl ∙ count_over c (records (spell_lines ls) ++ tail) s.plain ∙ ap (λ n. 1 + n) (count_lines ls false m rest tail more) ∙ one

last_over : (content rest acc : List ℕ) → fold record_after acc (content ++ 13 ∷ rest) ≡ fold record_after [] rest
last_over [] rest acc = refl
last_over (b ∷ bs) rest acc = last_over bs rest (record_after acc b)

last_lines : (ls : List Line) (first : Bool) (bytes rest tail : List ℕ) → Front first bytes ls rest → last_record (records (spell_lines ls) ++ tail) ≡ last_record tail
last_lines [] first bytes rest tail h = refl
last_lines (l ∷ ls) first bytes rest tail (c, m, e, f, more) =
    let s = step first (is_none m) l ls bytes c m e f in
    ap (λ v. last_record (v ++ tail)) s.lines ∙ ap last_record (append_assoc (10 ∷ c) (13 ∷ records (spell_lines ls)) tail)
    ∙ last_over (10 ∷ c) (records (spell_lines ls) ++ tail) [] ∙ last_lines ls false m rest tail more

pub begins_its_line : BadLineBeginsItsLine
begins_its_line = λ number bytes bad.
    let b = broken number bytes bad in
    let front : List ℕ = records (spell_lines bad.before) in
    let is : take (length front + 1) (records bytes) ≡ front ++ 10 ∷ [] = ap (take (length front + 1)) b.text ∙ took front b.more in
    let line : 1 + count_by is_record_end (front ++ 10 ∷ []) ≡ number = ap (λ n. 1 + n) (count_lines bad.before true bytes bad.rest (10 ∷ []) bad.front) ∙ (let k : 1 + (length bad.before + 0) ≡ length bad.before + 1 = omega arith in k) ∙ sym bad.counted in
    let column : 1 + length (without_start (last_record (front ++ 10 ∷ []))) ≡ 1 = ap (λ v. 1 + length (without_start v)) (last_lines bad.before true bytes bad.rest (10 ∷ []) bad.front) in
    ap line_column_of is ∙ ap (λ n. (n, 1 + length (without_start (last_record (front ++ 10 ∷ []))))) line ∙ ap (λ n. (number, n)) column
