-- What tests of bytes say.
use Rattle.std.proofs.Common.{◌≡◌, ℕ, Bool, true, false, ◌||◌, ◌&&◌, ◌==◌, ◌⊎◌, inl, inr, refl, arith, ap, ◌∙◌}
use Rattle.std.proofs.lemmas.Bool.Decides.{Decides-eqb, nat_tests}
use Rattle.sgml_text.specs.Characters.{upper, is_letter, is_digit, is_separator, is_quote}
use Rattle.sgml_sgmldecl.specs.Characters.{is_name_byte}

pub or_left : (x y : Bool) → x ≡ true → (x || y) ≡ true
or_left true y is = refl
or_left false y is = cc

pub or_right : (x y : Bool) → y ≡ true → (x || y) ≡ true
or_right true y is = refl
or_right false y is = is

pub one_of : (x y : Bool) → (x || y) ≡ true → (x ≡ true) ⊎ (y ≡ true)
one_of true y is = inl refl
one_of false y is = inr is

pub both : (x y : Bool) → (x && y) ≡ true → (x ≡ true) × (y ≡ true)
both true y is = (refl, is)
both false y is = cc

pub neither : (x y : Bool) → (x || y) ≡ false → (x ≡ false) × (y ≡ false)
neither true y is = cc
neither false y is = (refl, is)

pub not_so : (x : Bool) → (x ≡ true → ⊥) → x ≡ false
not_so true no_way = absurd (no_way refl)
not_so false no_way = refl

pub not_both_ways : (x : Bool) → x ≡ true → x ≡ false → ⊥
not_both_ways true one two = cc
not_both_ways false one two = cc

pub equal : (a b : ℕ) → (a == b) ≡ true → a ≡ b
equal a b is = (Decides-eqb a b).0 is

pub equal_test : (a b : ℕ) → a ≡ b → (a == b) ≡ true
equal_test a b is = (Decides-eqb a b).1 is

at_byte : (n b : ℕ) → is_name_byte n ≡ false → (b == n) ≡ true → is_name_byte b ≡ false
at_byte n b known same = ap is_name_byte (equal b n same) ∙ known

-- a separator is no name character
pub separator_not_name : (b : ℕ) → is_separator b ≡ true → is_name_byte b ≡ false
separator_not_name b is = elim (one_of ((b == 13) || (b == 10) || (b == 32)) (b == 9) is) [
  | inl one ↦ elim (one_of ((b == 13) || (b == 10)) (b == 32) one) [
    | inl two ↦ elim (one_of (b == 13) (b == 10) two) [ inl e ↦ at_byte 13 b refl e | inr e ↦ at_byte 10 b refl e ]
    | inr e ↦ at_byte 32 b refl e
  ]
  | inr e ↦ at_byte 9 b refl e
]

-- a quote is no name character
pub quote_not_name : (b : ℕ) → is_quote b ≡ true → is_name_byte b ≡ false
quote_not_name b is = elim (one_of (b == 34) (b == 39) is) [ inl e ↦ at_byte 34 b refl e | inr e ↦ at_byte 39 b refl e ]

pub quote_not_separator : (b : ℕ) → is_quote b ≡ true → is_separator b ≡ false
quote_not_separator b is = elim (one_of (b == 34) (b == 39) is) [ inl e ↦ ap is_separator (equal b 34 e) | inr e ↦ ap is_separator (equal b 39 e) ]

pub quote_not_dash : (b : ℕ) → is_quote b ≡ true → (b == 45) ≡ false
quote_not_dash b is = elim (one_of (b == 34) (b == 39) is) [ inl e ↦ ap (λ n. n == 45) (equal b 34 e) | inr e ↦ ap (λ n. n == 45) (equal b 39 e) ]

-- a letter or a digit
abbrev pub is_alnum : ℕ → Bool
is_alnum b = is_letter b || is_digit b

pub letter_alnum : (b : ℕ) → is_letter b ≡ true → is_alnum b ≡ true
letter_alnum b is = or_left (is_letter b) (is_digit b) is

pub digit_alnum : (b : ℕ) → is_digit b ≡ true → is_alnum b ≡ true
digit_alnum b is = or_right (is_letter b) (is_digit b) is

pub alnum_name : (b : ℕ) → is_alnum b ≡ true → is_name_byte b ≡ true
alnum_name b is = rw is refl

pub alnum_not_separator : (b : ℕ) → is_alnum b ≡ true → is_separator b ≡ false
alnum_not_separator b is = not_so (is_separator b) (λ (sep : is_separator b ≡ true). not_both_ways (is_name_byte b) (alnum_name b is) (separator_not_name b sep))

pub alnum_not_dash : (b : ℕ) → is_alnum b ≡ true → (b == 45) ≡ false
alnum_not_dash b is = not_so (b == 45) (λ (same : (b == 45) ≡ true). not_both_ways (is_alnum b) is (ap is_alnum (equal b 45 same)))

-- where the byte in upper case is a letter or digit, the byte is one
pub alnum_of_upper : (b : ℕ) → is_alnum (upper b) ≡ true → is_alnum b ≡ true
alnum_of_upper b is = grind (arith, nat_tests)
