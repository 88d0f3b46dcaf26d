-- Decimal digits, as `parse` reads them.
use Rattle.std.proofs.Common.{◌≡◌, ◌<◌, ◌≤◌, ◌&&◌, ◌==◌, ◌^◌, ℕ, Bool, true, false, refl, sym, subst, arith, List, [], ◌∷◌, nat_le, true≢false, leb-true, Err, Option, None}
use Rattle.std.specs.Char.{digit_value}
use Rattle.std.specs.List.{list_all}
use Rattle.std.specs.Str.Parse.{AllDigits, IsNumeral, ParsesUnsigned, digits_value, without_leading_plus}
use Rattle.sgml_text.specs.Characters.{is_digit}
use Rattle.sgml_words.specs.Numbers.{is_decimal, is_within, number_in}
use Rattle.sgml_words.proofs.Truth.{and_false, both}

small : (b : ℕ) → is_digit b ≡ true → digit_value b < 10
small b e =
    let parts = both (nat_le 48 b) (nat_le b 57) e in
    let least : 48 ≤ b = leb-true 48 b parts.0 in
    let most : b ≤ 57 = leb-true b 57 parts.1 in
    grind arith

digits : (bs : List ℕ) → list_all is_digit bs ≡ true → AllDigits 10 bs
digits [] e = tt
digits (b ∷ bs) e =
    let parts = both (is_digit b) (list_all is_digit bs) e in
    (small b parts.0, digits bs parts.1)

no_plus : (b : ℕ) (bs : List ℕ) → is_digit b ≡ true → without_leading_plus (b ∷ bs) ≡ b ∷ bs
no_plus b bs e =
    let parts = both (nat_le 48 b) (nat_le b 57) e in
    let least : 48 ≤ b = leb-true 48 b parts.0 in
    let no : (b == 43) ≡ false = grind arith in
    rw no refl

numeral : (text : List ℕ) → is_decimal text ≡ true
    → IsNumeral 10 (without_leading_plus text) × (without_leading_plus text ≡ text)
numeral [] e = absurd (true≢false (sym e))
numeral (b ∷ bs) e =
    let parts = both (is_digit b) (list_all is_digit bs) e in
    let same = no_plus b bs parts.0 in
    (subst (IsNumeral 10) (sym same) (omega arith, (small b parts.0, digits bs parts.1)), same)

too_large : (least most n : ℕ) (t : Bool) → nat_le n most ≡ t → (n ≤ most → ⊥)
    → (a : Bool) → ◌≡◌ {A = Bool} (a && is_within least most n) false
too_large least most n true e bad a = absurd (bad (leb-true n most e))
too_large least most n false e bad true = rw e (and_false (nat_le least n))
too_large least most n false e bad false = refl

-- what `parse` refuses is no number in a range of 64 bits
pub not_parsed : {E : Type 0} (text : List ℕ) (least most : ℕ) (e : E) → is_decimal text ≡ true → most < 2 ^ 64
    → ParsesUnsigned 64 10 text (Err e) → ◌≡◌ {A = Option ℕ} None (number_in least most text)
not_parsed text least most e decimal fits refused =
    let is = numeral text decimal in
    let bad : digits_value 10 text ≤ most → ⊥ = λ le.
    refused (is.0, subst (λ t. digits_value 10 t < 2 ^ 64) (sym is.1) (omega (arith, le, fits))) in
    rw (too_large least most (digits_value 10 text) (nat_le (digits_value 10 text) most) refl bad
    (is_decimal text)) refl
