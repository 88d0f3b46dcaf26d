-- Numbers in the words of the command (profile).
use Rattle.std.specs.Prelude.{◌&&◌, ◌==◌, ℕ, Bool, false, List, [], ◌∷◌, Option, Some, None, if◌then◌else◌, nat_le}
use Rattle.std.specs.List.{list_all}
use Rattle.std.specs.Str.Parse.{digits_value}
use Rattle.sgml_text.specs.Characters.{is_digit}

-- one or more digits; no sign
abbrev pub is_decimal : List ℕ → Bool
is_decimal [] = false
is_decimal (b ∷ bs) = is_digit b && list_all is_digit bs

abbrev pub is_within : ℕ → ℕ → ℕ → Bool
is_within least most n = nat_le least n && nat_le n most

-- the number that the digits write, if it is in the range; leading zeros are read
abbrev pub number_in : ℕ → ℕ → List ℕ → Option ℕ
number_in least most text =
    if is_decimal text && is_within least most (digits_value 10 text) then Some (digits_value 10 text) else None

abbrev pub begins_with_zero : List ℕ → Bool
begins_with_zero [] = false
begins_with_zero (b ∷ bs) = b == 48

-- the number of a selfcheck: 1 to 100,000, without a leading zero
abbrev pub selfcheck_number : List ℕ → Option ℕ
selfcheck_number text = if begins_with_zero text then None else number_in 1 100000 text
