-- Which bytes names have, and the last byte of a text.
use Rattle.std.proofs.Common.{◌≡◌, ℕ, suc, ◌-◌, Bool, true, false, List, [], ◌∷◌, ◌++◌, length, take, refl, ◌∙◌, ap, ◌&&◌, ◌||◌, ◌==◌, arith, length-append, slice_index_or}
use Rattle.std.specs.List.{list_all}
use Rattle.std.proofs.lemmas.Bool.Decides.{nat_tests}
use Rattle.sgml_text.specs.declared.name_set.NameSet.{NameSet}
use Rattle.sgml_text.specs.NameCharacters.{is_name_character, is_marked}
use Rattle.sgml_text.specs.Characters.{is_letter, is_digit, is_sgml_character, is_quote}
use Rattle.sgml_markup.specs.Forms.{last_byte}
use Rattle.sgml_delim.proofs.Deciding.{true-false, and-left, and-right}

-- a name character ends nothing, and is an SGML character
marked-any : (a m b s c l d k : Bool) → ((a && m) || (b && s) || (c && l) || (d && k)) ≡ true → (a || b || c || d) ≡ true
marked-any true m b s c l d k e = refl
marked-any false m true s c l d k e = refl
marked-any false m false s true l d k e = refl
marked-any false m false s false l true k e = refl
marked-any false m false s false l false k e = e

marked-is : (marks : List Bool) (b : ℕ) → is_marked marks b ≡ true → ((b == 45) || (b == 46) || (b == 95) || (b == 58)) ≡ true
marked-is [] b e = absurd (true-false e)
marked-is (m ∷ []) b e = absurd (true-false e)
marked-is (m ∷ s ∷ []) b e = absurd (true-false e)
marked-is (m ∷ s ∷ l ∷ []) b e = absurd (true-false e)
marked-is (m ∷ s ∷ l ∷ k ∷ []) b e = marked-any (b == 45) m (b == 46) s (b == 95) l (b == 58) k e
marked-is (m ∷ s ∷ l ∷ k ∷ x ∷ xs) b e = absurd (true-false e)

name-any : (l d x y m s u v : Bool) → (x ≡ true → (m || s || u || v) ≡ true) → (y ≡ true → (m || s || u || v) ≡ true)
    → (l || d || x || y) ≡ true → (l || d || m || s || u || v) ≡ true
name-any true d x y m s u v f g e = refl
name-any false true x y m s u v f g e = refl
name-any false false true y m s u v f g e = f refl
name-any false false false true m s u v f g e = g refl
name-any false false false false m s u v f g e = absurd (true-false e)

pub name-is : (names : NameSet) (b : ℕ) → is_name_character names b ≡ true
    → (is_letter b || is_digit b || (b == 45) || (b == 46) || (b == 95) || (b == 58)) ≡ true
name-is names b e =
    name-any (is_letter b) (is_digit b) (is_marked names.start b) (is_marked names.more b) (b == 45) (b == 46) (b == 95) (b == 58)
    (marked-is names.start b) (marked-is names.more b) e

pub record Named (b : ℕ) : Type 0 where
  pub sgml : is_sgml_character b ≡ true
  pub no_tagc : (b == 62) ≡ false
  pub no_net : (b == 47) ≡ false
  pub no_stago : (b == 60) ≡ false
  pub no_dso : (b == 91) ≡ false
  pub no_quote : is_quote b ≡ false

named-of : (b : ℕ) → (is_letter b || is_digit b || (b == 45) || (b == 46) || (b == 95) || (b == 58)) ≡ true → Named b
named-of b e = record {
  sgml = grind (arith, nat_tests);
  no_tagc = grind (arith, nat_tests);
  no_net = grind (arith, nat_tests);
  no_stago = grind (arith, nat_tests);
  no_dso = grind (arith, nat_tests);
  no_quote = grind (arith, nat_tests);
}

pub name-named : (names : NameSet) (b : ℕ) → is_name_character names b ≡ true → Named b
name-named names b e = named-of b (name-is names b e)

pub all-append : (test : ℕ → Bool) (xs ys : List ℕ) → list_all test xs ≡ true → list_all test ys ≡ true → list_all test (xs ++ ys) ≡ true
all-append test [] ys e f = f
all-append test (x ∷ xs) ys e f =
    ap (λ t. t && list_all test (xs ++ ys)) (and-left (test x) (list_all test xs) e)
    ∙ all-append test xs ys (and-right (test x) (list_all test xs) e) f

-- the last byte of a text, and the text before it
pub index-last : (xs : List ℕ) (b : ℕ) → slice_index_or (xs ++ b ∷ []) (length xs) 0 ≡ b
index-last [] b = refl
index-last (x ∷ xs) b = index-last xs b

pub take-front : (xs ys : List ℕ) → take (length xs) (xs ++ ys) ≡ xs
take-front [] ys = refl
take-front (x ∷ xs) ys = ap (λ zs. x ∷ zs) (take-front xs ys)

pub take-past : (xs ys : List ℕ) (b : ℕ) → take (suc (length xs)) (xs ++ b ∷ ys) ≡ xs ++ b ∷ []
take-past [] ys b = refl
take-past (x ∷ xs) ys b = ap (λ zs. x ∷ zs) (take-past xs ys b)

pub size-before : (xs : List ℕ) (b : ℕ) → length (xs ++ b ∷ []) - 1 ≡ length xs
size-before xs b = let len = length-append xs (b ∷ []) in omega (arith, len)

pub last-is : (xs : List ℕ) (b : ℕ) → last_byte (xs ++ b ∷ []) ≡ b
last-is xs b = ap (λ n. slice_index_or (xs ++ b ∷ []) n 0) (size-before xs b) ∙ index-last xs b
