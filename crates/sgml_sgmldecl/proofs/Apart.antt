-- No two rows of what is due begin with one byte.
use Rattle.std.proofs.Common.{◌≡◌, ℕ, Bool, true, false, not, ◌&&◌, inl, inr, List, [], ◌∷◌, Option, Some, refl, sym, ap, ◌∙◌, cond, arith}
use Rattle.std.proofs.lemmas.Bool.Decides.{nat_tests}
use Rattle.sgml_text.specs.Characters.{upper, is_letter, is_digit, is_quote}
use Rattle.sgml_sgmldecl.specs.declared.due.Due.{Due}
use Rattle.sgml_sgmldecl.specs.declared.due.Due.TheVariants as due
use Rattle.sgml_sgmldecl.specs.declared.row.Row.{Row}
use Rattle.sgml_sgmldecl.specs.declared.row.Item.{Item}
use Rattle.sgml_sgmldecl.specs.declared.row.Item.TheVariants as i
use Rattle.sgml_sgmldecl.specs.Keywords.{spelling}
use Rattle.sgml_sgmldecl.specs.Rows.{rows}
use Rattle.sgml_sgmldecl.specs.Characters.{is_name_byte}
use Rattle.sgml_sgmldecl.specs.Items.{has_byte, begins}
use Rattle.sgml_sgmldecl.specs.Following.{first_begun, row_at, IsRow}
use Rattle.sgml_sgmldecl.proofs.ByteTests.{equal, both, not_so, not_both_ways, is_alnum, digit_alnum, alnum_name, alnum_of_upper, quote_not_name}
use Rattle.sgml_sgmldecl.proofs.Table.{keyword_start, starts_alnum}

-- the first byte
abbrev first : List ℕ → ℕ
first [] = 0
first (x ∷ xs) = x

abbrev disjoint : Item → Item → Bool
disjoint (i.Word k) (i.Word l) = not (has_byte (spelling l) 0 (first (spelling k)))
disjoint (i.Word k) i.Number = is_letter (first (spelling k))
disjoint i.Number (i.Word l) = is_letter (first (spelling l))
disjoint (i.Word k) (i.Literal c) = true
disjoint (i.Literal c) (i.Word l) = true
disjoint i.Number (i.Literal c) = true
disjoint (i.Literal c) i.Number = true
disjoint _ _ = false

letter_of_upper : (b : ℕ) → is_letter (upper b) ≡ true → is_letter b ≡ true
letter_of_upper b is = grind (arith, nat_tests)

letter_not_digit : (b : ℕ) → is_letter b ≡ true → is_digit b ≡ false
letter_not_digit b is = grind (arith, nat_tests)

-- a keyword begins with its first byte
first_byte : (xs : List ℕ) (n : ℕ) → has_byte xs 0 n ≡ true → first xs ≡ n
first_byte [] n has = cc
first_byte (x ∷ xs) n has = equal x n has

word_alnum : (k : List ℕ) (b : ℕ) → starts_alnum k ≡ true → has_byte k 0 (upper b) ≡ true → is_alnum b ≡ true
word_alnum [] b start has = cc
word_alnum (x ∷ xs) b start has = alnum_of_upper b (ap is_alnum (sym (equal x (upper b) has)) ∙ start)

alnum_not_quote : (b : ℕ) → is_alnum b ≡ true → is_quote b ≡ false
alnum_not_quote b is = not_so (is_quote b) (λ (quote : is_quote b ≡ true). not_both_ways (is_name_byte b) (alnum_name b is) (quote_not_name b quote))

was_not : (x : Bool) → not x ≡ true → x ≡ false
was_not true is = cc
was_not false is = refl

disjoint_so : (one other : Item) (b : ℕ) → disjoint one other ≡ true → begins one b ≡ true → begins other b ≡ false
disjoint_so (i.Word k) (i.Word l) b apart is =
    let head : first (spelling k) ≡ upper b = first_byte (spelling k) (upper b) is in
    ap (has_byte (spelling l) 0) (sym head) ∙ was_not (has_byte (spelling l) 0 (first (spelling k))) apart
disjoint_so (i.Word k) i.Number b apart is =
    let head : first (spelling k) ≡ upper b = first_byte (spelling k) (upper b) is in
    letter_not_digit b (letter_of_upper b (ap is_letter (sym head) ∙ apart))
disjoint_so i.Number (i.Word l) b apart is =
    not_so (has_byte (spelling l) 0 (upper b)) (λ (has : has_byte (spelling l) 0 (upper b) ≡ true).
    not_both_ways (is_digit b) is (letter_not_digit b (letter_of_upper b (ap is_letter (sym (first_byte (spelling l) (upper b) has)) ∙ apart))))
disjoint_so (i.Word k) (i.Literal c) b apart is = alnum_not_quote b (word_alnum (spelling k) b (keyword_start k) is)
disjoint_so (i.Literal c) (i.Word l) b apart is =
    not_so (has_byte (spelling l) 0 (upper b)) (λ (has : has_byte (spelling l) 0 (upper b) ≡ true). not_both_ways (is_quote b) is (alnum_not_quote b (word_alnum (spelling l) b (keyword_start l) has)))
disjoint_so i.Number (i.Literal c) b apart is = alnum_not_quote b (digit_alnum b is)
disjoint_so (i.Literal c) i.Number b apart is = not_so (is_digit b) (λ (digit : is_digit b ≡ true). not_both_ways (is_quote b) is (alnum_not_quote b (digit_alnum b digit)))
disjoint_so (i.Word k) i.Opening b apart is = refl
disjoint_so i.Number i.Opening b apart is = refl
disjoint_so (i.Literal c) i.Opening b apart is = refl
disjoint_so i.Opening other b apart is = absurd (not_both_ways false is refl)
disjoint_so (i.Name e) other b apart is = absurd (not_both_ways false apart refl)
disjoint_so i.End other b apart is = absurd (not_both_ways false apart refl)
disjoint_so (i.Word k) (i.Name e) b apart is = absurd (not_both_ways false apart refl)
disjoint_so (i.Word k) i.End b apart is = absurd (not_both_ways false apart refl)
disjoint_so i.Number i.Number b apart is = absurd (not_both_ways false apart refl)
disjoint_so i.Number (i.Name e) b apart is = absurd (not_both_ways false apart refl)
disjoint_so i.Number i.End b apart is = absurd (not_both_ways false apart refl)
disjoint_so (i.Literal c) (i.Literal x) b apart is = absurd (not_both_ways false apart refl)
disjoint_so (i.Literal c) (i.Name e) b apart is = absurd (not_both_ways false apart refl)
disjoint_so (i.Literal c) i.End b apart is = absurd (not_both_ways false apart refl)

-- each later row begins apart from the first
abbrev later_apart : Row → List Row → Bool
later_apart r [] = true
later_apart r (x ∷ xs) = disjoint x.item r.item && later_apart r xs

abbrev all_apart : List Row → Bool
all_apart [] = true
all_apart (r ∷ rs) = later_apart r rs && all_apart rs

rows_apart : (d : Due) → all_apart (rows d) ≡ true
rows_apart due.Heading = refl
rows_apart _ = refl

first_no : (r x : Row) (xs : List Row) (b : ℕ) → later_apart r xs ≡ true → IsRow x xs → begins x.item b ≡ true → begins r.item b ≡ false
first_no r x [] b apart is_row is = absurd is_row
first_no r x (y ∷ ys) b apart is_row is = elim is_row [
  | inl same ↦ disjoint_so x.item r.item b (ap (λ (z : Row). disjoint z.item r.item) same ∙ (both (disjoint y.item r.item) (later_apart r ys) apart).0) is
  | inr later ↦ first_no r x ys b (both (disjoint y.item r.item) (later_apart r ys) apart).1 later is
]

found_in : (rs : List Row) (r : Row) (b : ℕ) → all_apart rs ≡ true → IsRow r rs → begins r.item b ≡ true → first_begun rs b ≡ Some r
found_in [] r b apart is_row is = absurd is_row
found_in (x ∷ rs) r b apart is_row is = elim is_row [
  | inl same ↦ (ap (λ (t : Bool). cond t (Some x) (first_begun rs b)) (ap (λ (z : Row). begins z.item b) (sym same) ∙ is) ∙ ap (λ (z : Row). Some z) (sym same))
  | inr later ↦ (ap (λ (t : Bool). cond t (Some x) (first_begun rs b)) (first_no x r rs b (both (later_apart x rs) (all_apart rs) apart).0 later is) ∙ found_in rs r b (both (later_apart x rs) (all_apart rs) apart).1 later is)
]

-- a row is the one that is found by each byte with which it begins
pub found_alone : (d : Due) (r : Row) (b : ℕ) → IsRow r (rows d) → begins r.item b ≡ true → row_at d b ≡ Some r
found_alone d r b is_row is = found_in (rows d) r b (rows_apart d) is_row is

by_test : (x : Row) (rs : List Row) (r : Row) (b : ℕ) (t : Bool) → begins x.item b ≡ t → (first_begun rs b ≡ Some r → IsRow r rs × (begins r.item b ≡ true)) → cond t (Some x) (first_begun rs b) ≡ Some r → IsRow r (x ∷ rs) × (begins r.item b ≡ true)
by_test x rs r b true test later found = let same : x ≡ r = cc in (inl (sym same), ap (λ (z : Row). begins z.item b) (sym same) ∙ test)
by_test x rs r b false test later found = let q = later found in (inr q.0, q.1)

-- and the row that is found is one of what is due
pub is_row_found : (rs : List Row) (r : Row) (b : ℕ) → first_begun rs b ≡ Some r → IsRow r rs × (begins r.item b ≡ true)
is_row_found [] r b found = cc
is_row_found (x ∷ rs) r b found = by_test x rs r b (begins x.item b) refl (λ (f : first_begun rs b ≡ Some r). is_row_found rs r b f) found

-- no two rows of one due begin with one byte
pub apart_rows : (d : Due) (one other : Row) (b : ℕ) → IsRow one (rows d) → IsRow other (rows d) → begins one.item b ≡ true → begins other.item b ≡ true → one ≡ other
apart_rows d one other b is also begun too =
    let same : ◌≡◌ {A = Option Row} (Some one) (Some other) = sym (found_alone d one b is begun) ∙ found_alone d other b also too in
    cc
